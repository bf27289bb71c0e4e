-- Sequences that are taken from both ends in turn.
use Rattle.std.proofs.Common.{◌≡◌, ℕ, ◌+◌, ◌-◌, ◌<◌, ◌≤◌, Bool, true, false, List, [], ◌∷◌, ◌++◌, get_or, length, take, drop, refl, sym, ap, ◌∙◌, append_assoc, add-one}
use Rattle.std.proofs.lemmas.List.{append-nil, drop_all, nil_from_length, take-append-drop}
use Rattle.std.proofs.Math.Seq.{drop-cons}
use Rattle.cordyceps_list.specs.Turns.{Parts, first_out, last_out, parts_from, parts_by}

module _ {A : Type 0} where
  -- all that there was
  abbrev whole : Parts A → List A
  whole p = p.firsts ++ p.left ++ p.lasts

  joined : (f l : List A) (n : ℕ) → (f ++ take n l) ++ drop n l ≡ f ++ l
  joined f l n = append_assoc f (take n l) (drop n l) ∙ ap (λ t. f ++ t) (take-append-drop n l)

  whole-last : (f l b : List A) (n : ℕ) → (f ++ take n l) ++ (drop n l ++ b) ≡ (f ++ l) ++ b
  whole-last f l b n = sym (append_assoc (f ++ take n l) (drop n l) b) ∙ ap (λ t. t ++ b) (joined f l n)

  whole_kept : (turns : List Bool) (p : Parts A) → whole (parts_from turns p) ≡ whole p
  whole_kept [] p = refl
  whole_kept (true ∷ turns) p = whole_kept turns (first_out p) ∙ ap (λ t. t ++ p.lasts) (joined p.firsts p.left 1)
  whole_kept (false ∷ turns) p = whole_kept turns (last_out p) ∙ whole-last p.firsts p.left p.lasts (length p.left - 1)

  -- the parts are all of it, at each turn
  pub all_there : (turns more : List Bool) (s f l b : List A) → parts_from more (record { firsts = f; left = l; lasts = b }) ≡ parts_by turns s → f ++ l ++ b ≡ s
  all_there turns more s f l b is =
      let p : Parts A = record { firsts = f; left = l; lasts = b } in
      sym (whole_kept more p) ∙ ap whole is ∙ whole_kept turns (record { firsts = []; left = s; lasts = [] }) ∙ append-nil s

  pub all_parts : (turns : List Bool) (s : List A) → (parts_by turns s).firsts ++ (parts_by turns s).left ++ (parts_by turns s).lasts ≡ s
  all_parts turns s = whole_kept turns (record { firsts = []; left = s; lasts = [] }) ∙ append-nil s

  turned : (turns : List Bool) (i : ℕ) (d t : Bool) (p : Parts A) → i < length turns → get_or turns i d ≡ t → parts_from (drop i turns) p ≡ parts_from (t ∷ drop (i + 1) turns) p
  turned turns i d t p below is = ap (λ u. parts_from u p) (drop-cons turns i d below ∙ (λ j. is j ∷ drop (sym (add-one i) j) turns))

  -- a turn at the front, and one at the back
  pub first_turn : (turns : List Bool) (i : ℕ) (d : Bool) (s f l b f' l' b' : List A) → i < length turns → get_or turns i d ≡ true → parts_from (drop i turns) (record { firsts = f; left = l; lasts = b }) ≡ parts_by turns s → f' ≡ f ++ take 1 l → l' ≡ drop 1 l → b' ≡ b → parts_from (drop (i + 1) turns) (record { firsts = f'; left = l'; lasts = b' }) ≡ parts_by turns s
  first_turn turns i d s f l b f' l' b' below is was fe le be =
      let p : Parts A = record { firsts = f; left = l; lasts = b } in
      let q : Parts A = record { firsts = f'; left = l'; lasts = b' } in
      let new : q ≡ first_out p = λ j. record { firsts = fe j; left = le j; lasts = be j } in
      ap (λ u. parts_from (drop (i + 1) turns) u) new ∙ sym (turned turns i d true p below is) ∙ was

  pub last_turn : (turns : List Bool) (i : ℕ) (d : Bool) (s f l b f' l' b' : List A) → i < length turns → get_or turns i d ≡ false → parts_from (drop i turns) (record { firsts = f; left = l; lasts = b }) ≡ parts_by turns s → f' ≡ f → l' ≡ take (length l - 1) l → b' ≡ drop (length l - 1) l ++ b → parts_from (drop (i + 1) turns) (record { firsts = f'; left = l'; lasts = b' }) ≡ parts_by turns s
  last_turn turns i d s f l b f' l' b' below is was fe le be =
      let p : Parts A = record { firsts = f; left = l; lasts = b } in
      let q : Parts A = record { firsts = f'; left = l'; lasts = b' } in
      let new : q ≡ last_out p = λ j. record { firsts = fe j; left = le j; lasts = be j } in
      ap (λ u. parts_from (drop (i + 1) turns) u) new ∙ sym (turned turns i d false p below is) ∙ was

  -- after the last turn the parts are those of all turns
  pub last_parts : (turns : List Bool) (i : ℕ) (s f l b : List A) → length turns ≤ i → parts_from (drop i turns) (record { firsts = f; left = l; lasts = b }) ≡ parts_by turns s → record { firsts = f; left = l; lasts = b } ≡ parts_by turns s
  last_parts turns i s f l b past is =
      let p : Parts A = record { firsts = f; left = l; lasts = b } in
      sym (ap (λ u. parts_from u p) (drop_all i turns past)) ∙ is

  -- with nothing left, what came from the front is all but what came from the back
  pub all_firsts : (f l x : List A) → f ++ l ≡ x → length l ≡ 0 → f ≡ x
  all_firsts f l x is none = sym (append-nil f) ∙ sym (ap (λ t. f ++ t) (nil_from_length l none)) ∙ is

  pub all_once : (turns : List Bool) (s f l b : List A) → f ++ l ≡ (parts_by turns s).firsts ++ (parts_by turns s).left → b ≡ (parts_by turns s).lasts → length l ≡ 0 → f ++ b ≡ s
  all_once turns s f l b front back none =
      let firsts = all_firsts f l ((parts_by turns s).firsts ++ (parts_by turns s).left) front none in
      (λ j. firsts j ++ back j) ∙ all_parts turns s
