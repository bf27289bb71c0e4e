-- Lines that are taken one after the other.
use Rattle.std.proofs.Common.{◌≡◌, ℕ, ◌+◌, ◌≤◌, List, [], ◌∷◌, ◌++◌, length, Some, None, false, nat_lt, refl, sym, ◌∙◌, ap, arith, append_assoc}
use Rattle.std.proofs.lemmas.Bool.Decides.{nat_tests}
use Rattle.std.proofs.lemmas.List.{append-nil}
use Rattle.std.proofs.lemmas.List.Concat.{flat_map-append}
use Rattle.std.specs.List.{concat, AllByRecursion}
use Rattle.replay_driver.specs.Script.{Machine, step_of, Steps, replies, first_bad, state_after}
use Rattle.replay_driver.specs.Steps.{with_line_feed, HasNoFeed, Writes, Leads}

pub concat-append : (xs ys : List (List ℕ)) → concat (xs ++ ys) ≡ concat xs ++ concat ys
concat-append [] ys = refl
concat-append (x ∷ xs) ys = ap (λ (zs : List ℕ). x ++ zs) (concat-append xs ys) ∙ sym (append_assoc x (concat xs) (concat ys))

pub steps-append : {S : Type 0} (machine : Machine S) (old mid new : S) (lines more : List (List ℕ)) (texts added : List (List ℕ)) →
    Steps machine old lines mid texts → Steps machine mid more new added → Steps machine old (lines ++ more) new (texts ++ added)
steps-append machine old mid new [] more texts added (same, none) q =
    let r : Steps machine old more new added = rw (← same) q in rw none r
steps-append machine old mid new (line ∷ lines) more texts added (next, first, others, step, steps, joined) q =
    (next, first, others ++ added, step, steps-append machine next mid new lines more others added steps q, rw (joined, append_assoc) refl)

pub steps-one : {S : Type 0} (machine : Machine S) (old new : S) (line : List ℕ) (texts : List (List ℕ)) → step_of machine old line ≡ Some (new, texts) → Steps machine old (line ∷ []) new texts
steps-one machine old new line texts step = (new, texts, [], step, (refl, refl), sym (append-nil texts))

-- the replies and the first bad line after good lines
pub replies-steps : {S : Type 0} (machine : Machine S) (old new : S) (lines more : List (List ℕ)) (texts : List (List ℕ)) →
    Steps machine old lines new texts → replies machine old (lines ++ more) ≡ texts ++ replies machine new more
replies-steps machine old new [] more texts (same, none) = rw (same, none) refl
replies-steps machine old new (line ∷ lines) more texts (next, first, others, step, steps, joined) =
    rw (step, replies-steps machine next new lines more others steps, joined, append_assoc) refl

pub state_after-steps : {S : Type 0} (machine : Machine S) (old new : S) (lines more : List (List ℕ)) (texts : List (List ℕ)) →
    Steps machine old lines new texts → state_after machine old (lines ++ more) ≡ state_after machine new more
state_after-steps machine old new [] more texts (same, none) = rw same refl
state_after-steps machine old new (line ∷ lines) more texts (next, first, others, step, steps, joined) =
    rw step (state_after-steps machine next new lines more others steps)

pub first_bad-steps : {S : Type 0} (machine : Machine S) (old new : S) (lines : List (List ℕ)) (texts : List (List ℕ)) →
    Steps machine old lines new texts → first_bad machine old lines ≡ None
first_bad-steps machine old new [] texts (same, none) = refl
first_bad-steps machine old new (line ∷ lines) texts (next, first, others, step, steps, joined) =
    rw (step, first_bad-steps machine next new lines others steps) refl

pub first_bad-at : {S : Type 0} (machine : Machine S) (old new : S) (lines more : List (List ℕ)) (line : List ℕ) (texts : List (List ℕ)) →
    Steps machine old lines new texts → step_of machine new line ≡ None → first_bad machine old (lines ++ line ∷ more) ≡ Some (length lines + 1)
first_bad-at machine old new [] more line texts (same, none) bad = rw (← same, bad) refl
first_bad-at machine old new (first ∷ lines) more line texts (next, front, others, step, steps, joined) bad =
    rw (step, first_bad-at machine next new lines more line others steps bad) (ap Some (omega arith))

-- a line that is not too long is taken by the machine
pub short_line : {S : Type 0} (machine : Machine S) (state : S) (line : List ℕ) → length line ≤ 120 → step_of machine state line ≡ machine.step state line
short_line machine state line short = let is : nat_lt 120 (length line) ≡ false = grind (arith, nat_tests) in rw is refl

pub all-append : {A : Type 0} (P : A → Type 0) (xs ys : List A) → AllByRecursion P xs → AllByRecursion P ys → AllByRecursion P (xs ++ ys)
all-append P [] ys p q = q
all-append P (x ∷ xs) ys (h, p) q = (h, all-append P xs ys p q)

pub leads_nothing : {S : Type 0} (machine : Machine S) (old : S) (bytes : List ℕ) → Leads machine old bytes [] bytes old []
leads_nothing machine old bytes = record { cut = refl; no_feed = tt; steps = (refl, refl) }

pub leads_more : {S : Type 0} (machine : Machine S) (old mid new : S) (bytes line rest : List ℕ) (lines : List (List ℕ)) (texts added : List (List ℕ)) →
    Leads machine old bytes lines (line ++ 10 ∷ rest) mid texts → HasNoFeed line → step_of machine mid line ≡ Some (new, added) →
    Leads machine old bytes (lines ++ line ∷ []) rest new (texts ++ added)
leads_more machine old mid new bytes line rest lines texts added so_far clean step = record {
  cut = so_far.cut ∙ sym (rw (flat_map-append with_line_feed lines (line ∷ []), append_assoc, append-nil, append_assoc) refl);
  no_feed = all-append HasNoFeed lines (line ∷ []) so_far.no_feed (clean, tt);
  steps = steps-append machine old mid new lines (line ∷ []) texts added so_far.steps (steps-one machine mid new line added step);
}

pub writes_nothing : {O : Type 0} (takes : O → O → List ℕ → Type 0) (nothing : (o : O) → takes o o []) (o : O) (text : List ℕ) → Writes takes o text o text []
writes_nothing takes nothing o text = ([], nothing o, append-nil text)

pub writes_more : {O : Type 0} (takes : O → O → List ℕ → Type 0) (more : (s t u : O) (xs ys : List ℕ) → takes s t xs → takes t u ys → takes s u (xs ++ ys))
    (o p q : O) (text mid rest a b : List ℕ) → Writes takes o text p mid a → Writes takes p mid q rest b → Writes takes o text q rest (a ++ b)
writes_more takes more o p q text mid rest a b (w, took, split) (v, took', split') = (
  w ++ v,
  more o p q w v took took',
  sym (append_assoc text a b) ∙ ap (λ (xs : List ℕ). xs ++ b) split ∙ append_assoc w mid b ∙ ap (λ (xs : List ℕ). w ++ xs) split' ∙ sym (append_assoc w v rest),
)
