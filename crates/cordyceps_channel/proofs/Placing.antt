-- That each step of a place keeps its rule.
use Rattle.std.proofs.Common.{◌≡◌, ℕ, Bool, List, [], ◌∷◌, ◌++◌, set, get_or, Option, refl, sym, ap, ◌∙◌, subst, inl, inr, ⊎_elim, arith}
use Rattle.std.specs.Prelude.{Some, None}
use Rattle.std.specs.Prelude.{◌==◌}
use prog.Atomic.{either}
use mathlib.Core.Option.{some, none}
use lib.ListN.{get_elem?}
use Rattle.atomic_table.specs.Table.{Step, Me, Allows, Splits, keeps, takes, gives, rest}
use Rattle.atomic_table.proofs.Lists.{at_set, at_snoc}
use Rattle.cordyceps_channel.specs.Places.{PlaceHolds, in_hand, Took, opened, gave}

zero_one : ◌≡◌ {A = ℕ} 0 1 → ⊥
zero_one e = omega (arith, e)

zero_two : ◌≡◌ {A = ℕ} 0 2 → ⊥
zero_two e = omega (arith, e)

one_two : ◌≡◌ {A = ℕ} 1 2 → ⊥
one_two e = omega (arith, e)

abbrev value_of : {X : Type 0} → List (ℕ × Option X) → Option X
value_of [] = None
value_of (x ∷ xs) = x.1

module _ {X K : Type 0} where
  -- what a handle has in hand is known by whether it took the value out
  pub has_in_hand : (key : K) (m : Me (Option X) K) (a b : Bool) → m ≡ (key, in_hand a) → a ≡ b → m ≡ (key, in_hand b)
  has_in_hand key m a b is e = is ∙ ap (pair key) e
    where
      pair : K → Bool → Me (Option X) K
      pair k t = (k, in_hand t)

  -- the slot in hand has another value
  pub changed_in_hand : (key : K) (x new : Option X) (m k : Me (Option X) K) → m ≡ (key, (0, x) ∷ []) → k ≡ (m.0, (0, new) ∷ rest m.1) → k ≡ (key, (0, new) ∷ [])
  changed_in_hand key x new m k is e = e ∙ ap (λ (n : Me (Option X) K). (n.0, (0, new) ∷ rest n.1)) is

  -- what was read of the slot in hand is its value
  pub found_in_hand : (key : K) (x read : Option X) (m : Me (Option X) K) → m ≡ (key, (0, x) ∷ []) → m.1 ≡ (0, read) ∷ rest m.1 → read ≡ x
  found_in_hand key x read m is e = sym (ap value_of e) ∙ ap (λ (n : Me (Option X) K). value_of n.1) is

module _ {X K : Type 0} (Fits : K → X → Type 0) (key : K) where
  -- each handle still knows the key where one has it anew
  known_set : (vs : List K) (i : ℕ) → ((j : ℕ) (v : K) → get_elem? vs j ≡ some v → v ≡ key) → (j : ℕ) (v : K) → get_elem? (set vs i key) j ≡ some v → v ≡ key
  known_set vs i h j v e = ⊎_elim (λ t. sym t.1) (λ t. h j v t.1) (at_set vs i j key v e)

  known_more : (vs : List K) → ((j : ℕ) (v : K) → get_elem? vs j ≡ some v → v ≡ key) → (j : ℕ) (v : K) → get_elem? (vs ++ key ∷ []) j ≡ some v → v ≡ key
  known_more vs h j v e = ⊎_elim (λ t. h j v t) (λ t. sym t) (at_snoc vs key v j e)

  pub copies_allowed : (id : ℕ) → Splits (PlaceHolds Fits key) id key key key
  copies_allowed id s h at = record { known = known_more (set s.views id key) (known_set s.views id h.known); slot = ⊎_elim (λ o. inl o) (λ r. inr (⊎_elim (λ t. inl record { words = t.words; value = t.value; homes = t.homes; fits = t.fits }) (λ n. inr n) r)) h.slot }

  takes_allowed : (slots id : ℕ) (step : Step (Option X)) → Allows (PlaceHolds Fits key) slots id (key, []) 0 (λ n. either (n == 1) 0 n) (Took Fits step (key, []))
  takes_allowed slots id step s h wide at small =
      let known = known_set s.views id h.known in
      let f : ℕ → ℕ = λ n. either (n == 1) 0 n in
      let after : List ℕ → List ℕ = λ ws. set ws 0 (f (get_or ws 0 0)) in
      ⊎_elim (λ o.
      let is = ap (λ (ws : List ℕ). get_or ws 0 0) o.0 in (
        key,
        keeps,
        tt,
        record { known = known; slot = inl (ap after o.0, o.1) },
        record { value = λ e. absurd (zero_one (sym is ∙ e)); nothing = λ _. refl },
      )) (λ r. ⊎_elim (λ t.
      let is = ap (λ (ws : List ℕ). get_or ws 0 0) t.words in (
        key,
        takes 0 (Some t.value),
        ap (λ hs. get_elem? hs 0) t.homes,
        record { known = known; slot = inl (ap after t.words, ap (λ hs. set hs 0 none) t.homes) },
        record { value = λ _. record { value = t.value; has = refl; fits = t.fits }; nothing = λ n. absurd (n is) },
      )) (λ n.
      let is = ap (λ (ws : List ℕ). get_or ws 0 0) n.0 in (
        key,
        keeps,
        tt,
        record { known = known; slot = inr (inr (ap after n.0, n.1)) },
        record { value = λ e. absurd (one_two (sym e ∙ is)); nothing = λ _. refl },
      )) r) h.slot

  opens_allowed : (slots id : ℕ) (step : Step (Option X)) → Allows (PlaceHolds Fits key) slots id (key, []) 0 (λ n. either (n == 2) 0 n) (opened step (key, []))
  opens_allowed slots id step s h wide at small =
      let known = known_set s.views id h.known in
      let f : ℕ → ℕ = λ n. either (n == 2) 0 n in
      let after : List ℕ → List ℕ = λ ws. set ws 0 (f (get_or ws 0 0)) in
      ⊎_elim (λ o.
      let is = ap (λ (ws : List ℕ). get_or ws 0 0) o.0 in
      (key, keeps, tt, record { known = known; slot = inl (ap after o.0, o.1) }, λ e. absurd (zero_two (sym is ∙ e))))
      (λ r. ⊎_elim (λ t.
      let is = ap (λ (ws : List ℕ). get_or ws 0 0) t.words in
      (key, keeps, tt, record { known = known; slot = inr (inl record { words = ap after t.words; value = t.value; homes = t.homes; fits = t.fits }) }, λ e. absurd (one_two (sym is ∙ e))))
      (λ n. (
        key,
        takes 0 None,
        ap (λ hs. get_elem? hs 0) n.1,
        record { known = known; slot = inl (ap after n.0, ap (λ hs. set hs 0 none) n.1) },
        λ _. refl,
      )) r) h.slot

  gives_allowed : (slots id : ℕ) (step : Step (Option X)) (x : X) → Fits key x → Allows (PlaceHolds Fits key) slots id (key, (0, Some x) ∷ []) 0 (λ _. 1) (λ _. gave step (key, (0, Some x) ∷ []) 1)
  gives_allowed slots id step x fits s h wide at small =
      let ws = ⊎_elim (λ o. ap (λ (l : List ℕ). set l 0 1) o.0) (λ r. ⊎_elim (λ t. ap (λ (l : List ℕ). set l 0 1) t.words) (λ n. ap (λ (l : List ℕ). set l 0 1) n.0) r) h.slot in
      let hs = ⊎_elim (λ o. ap (λ l. set l 0 (some (Some x))) o.1) (λ r. ⊎_elim (λ t. ap (λ l. set l 0 (some (Some x))) t.homes) (λ n. ap (λ l. set l 0 (some (Some x))) n.1) r) h.slot in
      (key, gives, tt, record { known = known_set s.views id h.known; slot = inr (inl record { words = ws; value = x; homes = hs; fits = fits }) }, refl)

  -- the same of a handle that knows the key
  pub handle_copies : (id : ℕ) (m : Me (Option X) K) (slots : List (ℕ × Option X)) → m ≡ (key, slots) → Splits (PlaceHolds Fits key) id m.0 m.0 m.0
  handle_copies id m slots e = subst (λ (k : K). Splits (PlaceHolds Fits key) id k k k) (sym (ap (λ (n : Me (Option X) K). n.0) e)) (copies_allowed id)

  pub handle_takes : (slots id : ℕ) (step : Step (Option X)) (m : Me (Option X) K) → m ≡ (key, []) → Allows (PlaceHolds Fits key) slots id m 0 (λ n. either (n == 1) 0 n) (Took Fits step m)
  handle_takes slots id step m e = subst (λ (n : Me (Option X) K). Allows (PlaceHolds Fits key) slots id n 0 (λ n. either (n == 1) 0 n) (Took Fits step n)) (sym e) (takes_allowed slots id step)

  pub handle_opens : (slots id : ℕ) (step : Step (Option X)) (m : Me (Option X) K) → m ≡ (key, []) → Allows (PlaceHolds Fits key) slots id m 0 (λ n. either (n == 2) 0 n) (opened step m)
  handle_opens slots id step m e = subst (λ (n : Me (Option X) K). Allows (PlaceHolds Fits key) slots id n 0 (λ n. either (n == 2) 0 n) (opened step n)) (sym e) (opens_allowed slots id step)

  pub handle_gives : (slots id : ℕ) (step : Step (Option X)) (x : X) (m : Me (Option X) K) → Fits key x → m ≡ (key, (0, Some x) ∷ []) → Allows (PlaceHolds Fits key) slots id m 0 (λ _. 1) (λ _. gave step m 1)
  handle_gives slots id step x m fits e = subst (λ (n : Me (Option X) K). Allows (PlaceHolds Fits key) slots id n 0 (λ _. 1) (λ _. gave step n 1)) (sym e) (gives_allowed slots id step x fits)
