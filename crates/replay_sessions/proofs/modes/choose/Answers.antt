use Rattle.std.proofs.Common.{◌≡◌, ℕ, ◌<◌, List, [], ◌∷◌, length, map, get_or, arith, sym, ◌∙◌, ap}
use Rattle.std.proofs.lemmas.Slice.Eq.{bytes_eq-Decides}
use Rattle.std.specs.Prelude.{string_bytes}
use Rattle.replay_sessions.proofs.modes.choose.Goals as goal

single : {A : Type 0} (f : A → List ℕ) (xs : List A) (x : A) (text : List ℕ) → 0 < length xs → length xs < 2 → x ≡ get_or xs 0 x → f x ≡ text → map f xs ≡ text ∷ []
single f [] x text some few is same = absurd (omega arith)
single f (y ∷ []) x text some few is same = ap (λ (t : List ℕ). t ∷ []) (ap f (sym is) ∙ same)
single f (y ∷ z ∷ xs) x text some few is same = absurd (omega arith)

pub returns-in-len1 : goal.returns-in-len1
returns-in-len1 c =
    let same = (bytes_eq-Decides c.as_str.result.now _).0 (sym c.eq.ensures ∙ c.if-eq.true) in
    single string_bytes c.args.words.now c.word-item.result _ (omega (arith, c.in-len1.len_at_least)) (omega (arith, c.in-len1.len_below)) c.word-item.is (sym c.as_str.ensures.value ∙ same)

pub returns-in-len1-2 : goal.returns-in-len1-2
returns-in-len1-2 c =
    let same = (bytes_eq-Decides c.as_str-then-words-lt2.result.now _).0 (sym c.eq-then-words-lt2.ensures ∙ c.if-eq-2.true) in
    single string_bytes c.args.words.now c.word-item-then-words-lt2.result _ (omega (arith, c.in-len1.len_at_least)) (omega (arith, c.in-len1.len_below)) c.word-item-then-words-lt2.is (sym c.as_str-then-words-lt2.ensures.value ∙ same)

pub returns-in-len1-3 : goal.returns-in-len1-3
returns-in-len1-3 c =
    let same = (bytes_eq-Decides c.as_str-then-words-lt2-2.result.now _).0 (sym c.eq-then-words-lt2-2.ensures ∙ c.if-eq-3.true) in
    single string_bytes c.args.words.now c.word-item-then-words-lt2-2.result _ (omega (arith, c.in-len1.len_at_least)) (omega (arith, c.in-len1.len_below)) c.word-item-then-words-lt2-2.is (sym c.as_str-then-words-lt2-2.ensures.value ∙ same)

pub returns-in-len1-4 : goal.returns-in-len1-4
returns-in-len1-4 c =
    let same = (bytes_eq-Decides c.as_str-then-words-lt2-3.result.now _).0 (sym c.eq-then-words-lt2-3.ensures ∙ c.if-eq-4.true) in
    single string_bytes c.args.words.now c.word-item-then-words-lt2-3.result _ (omega (arith, c.in-len1.len_at_least)) (omega (arith, c.in-len1.len_below)) c.word-item-then-words-lt2-3.is (sym c.as_str-then-words-lt2-3.ensures.value ∙ same)

pub returns-in-len1-5 : goal.returns-in-len1-5
returns-in-len1-5 c =
    let same = (bytes_eq-Decides c.as_str-then-words-lt2-4.result.now _).0 (sym c.eq-then-words-lt2-4.ensures ∙ c.if-eq-5.true) in
    single string_bytes c.args.words.now c.word-item-then-words-lt2-4.result _ (omega (arith, c.in-len1.len_at_least)) (omega (arith, c.in-len1.len_below)) c.word-item-then-words-lt2-4.is (sym c.as_str-then-words-lt2-4.ensures.value ∙ same)

pub returns-in-len1-6 : goal.returns-in-len1-6
returns-in-len1-6 c =
    let same = (bytes_eq-Decides c.as_str-then-words-lt2-5.result.now _).0 (sym c.eq-then-words-lt2-5.ensures ∙ c.if-eq-6.true) in
    single string_bytes c.args.words.now c.word-item-then-words-lt2-5.result _ (omega (arith, c.in-len1.len_at_least)) (omega (arith, c.in-len1.len_below)) c.word-item-then-words-lt2-5.is (sym c.as_str-then-words-lt2-5.ensures.value ∙ same)
