-- Sums over lists, and how often a number is in one.
use Rattle.std.proofs.Common.{◌≡◌, ◌≢◌, ℕ, zero, suc, ◌+◌, ◌≤◌, List, [], ◌∷◌, ◌++◌, set, eqb, refl, sym, ap, eq-eqb, ne_eqb, arith, take, drop, take-append-drop, length, map, reverse, Bool, true, false, ◌||◌, ◌<◌, ◌∙◌}
use mathlib.Core.Option.{some, some-injective, some-ne-none}
use lib.ListN.{get_elem?}
use mathlib.Core.Logic.{dite}
use native.Mathlib.Decide.{ℕ_discrete}
use Rattle.std.specs.List.{IsDistinct, list_any, AllByRecursion}
use Rattle.std.proofs.lemmas.List.{reverse-append}
use Rattle.std.proofs.lemmas.Map.Steps.{length-le_from_distinct_below}
use Rattle.cordyceps_shared.specs.Counts.{tally, one_if, times, below}

module _ {X : Type 0} (f : X → ℕ) where
  pub tally_set : (vs : List X) (j : ℕ) (v w : X) → get_elem? vs j ≡ some v → tally f (set vs j w) + f v ≡ tally f vs + f w
  tally_set [] j v w e = absurd (some-ne-none v (sym e))
  tally_set (x ∷ xs) zero v w e = let same : f x ≡ f v = ap f (some-injective x v e) in omega arith
  tally_set (x ∷ xs) (suc j) v w e = omega (arith, tally_set xs j v w e)

  pub tally_one : (vs : List X) (j : ℕ) (v : X) → get_elem? vs j ≡ some v → f v ≤ tally f vs
  tally_one [] j v e = absurd (some-ne-none v (sym e))
  tally_one (x ∷ xs) zero v e = let same : f x ≡ f v = ap f (some-injective x v e) in omega arith
  tally_one (x ∷ xs) (suc j) v e = omega (arith, tally_one xs j v e)

  pub tally_two : (vs : List X) (i j : ℕ) (u v : X) → i ≢ j → get_elem? vs i ≡ some u → get_elem? vs j ≡ some v → f u + f v ≤ tally f vs
  tally_two [] i j u v n a b = absurd (some-ne-none u (sym a))
  tally_two (x ∷ xs) zero zero u v n a b = absurd (n refl)
  tally_two (x ∷ xs) zero (suc j) u v n a b = let same : f x ≡ f u = ap f (some-injective x u a) in omega (arith, tally_one xs j v b)
  tally_two (x ∷ xs) (suc i) zero u v n a b = let same : f x ≡ f v = ap f (some-injective x v b) in omega (arith, tally_one xs i u a)
  tally_two (x ∷ xs) (suc i) (suc j) u v n a b = omega (arith, tally_two xs i j u v (λ e. n (ap suc e)) a b)

  tally_none : (vs : List X) → ((i : ℕ) (u : X) → get_elem? vs i ≡ some u → f u ≡ 0) → tally f vs ≡ 0
  tally_none [] none = refl
  tally_none (x ∷ xs) none = let here = none 0 x refl in let there = tally_none xs (λ i u e. none (suc i) u e) in omega arith

  -- all but one item count for nothing
  pub tally_only : (vs : List X) (j : ℕ) (v : X) → get_elem? vs j ≡ some v → ((i : ℕ) (u : X) → i ≢ j → get_elem? vs i ≡ some u → f u ≡ 0) → tally f vs ≡ f v
  tally_only [] j v e none = absurd (some-ne-none v (sym e))
  tally_only (x ∷ xs) zero v e none =
      let same : f x ≡ f v = ap f (some-injective x v e) in
      let there = tally_none xs (λ i u a. none (suc i) u (λ z. absurd (omega arith)) a) in omega arith
  tally_only (x ∷ xs) (suc j) v e none =
      let here = none 0 x (λ z. absurd (omega arith)) refl in
      let there = tally_only xs j v e (λ i u n a. none (suc i) u (λ z. n (omega arith)) a) in omega arith

  pub tally_snoc : (vs : List X) (w : X) → tally f (vs ++ w ∷ []) ≡ tally f vs + f w
  tally_snoc [] w = omega arith
  tally_snoc (x ∷ xs) w = omega (arith, tally_snoc xs w)

module _ {X : Type 0} (f : X → ℕ) where
  pub tally_append : (xs ys : List X) → tally f (xs ++ ys) ≡ tally f xs + tally f ys
  tally_append [] ys = omega arith
  tally_append (x ∷ xs) ys = omega (arith, tally_append xs ys)

  pub tally_cut : (n : ℕ) (xs : List X) → tally f (drop n xs) + tally f (take n xs) ≡ tally f xs
  tally_cut n xs = let whole = ap (tally f) (take-append-drop n xs) in omega (arith, tally_append (take n xs) (drop n xs))

pub tally_reverse : {X : Type 0} (f : X → ℕ) (xs : List X) → tally f (reverse xs) ≡ tally f xs
tally_reverse f [] = refl
tally_reverse f (x ∷ xs) = omega (arith, tally_reverse f xs, tally_append f (reverse xs) (x ∷ []), ap (tally f) (reverse-append (x ∷ []) xs))

pub tally_map : {X Y : Type 0} (h : X → Y) (f : Y → ℕ) (xs : List X) → tally f (map h xs) ≡ tally (λ x. f (h x)) xs
tally_map h f [] = refl
tally_map h f (x ∷ xs) = ap (λ n. f (h x) + n) (tally_map h f xs)

pub one_here : (r : ℕ) → one_if (eqb r r) ≡ 1
one_here r = ap one_if (eq-eqb r r refl)

pub one_else : (x r : ℕ) → x ≢ r → one_if (eqb x r) ≡ 0
one_else x r n = ap one_if (ne_eqb x r n)

-- ---- numbers that differ
pub at_most_one : (b : Bool) → one_if b ≤ 1
at_most_one true = omega arith
at_most_one false = omega arith

none_same : (x : ℕ) (ys : List ℕ) → times x ys ≡ 0 → AllByRecursion (λ y. eqb x y ≡ false) ys
none_same x [] e = tt
none_same x (y ∷ ys) e = (ne_eqb x y (λ c. let here = ap (λ z. one_if (eqb z x)) c in let one = one_here x in absurd (omega arith)), none_same x ys (omega arith))

distinct : (xs : List ℕ) → ((r : ℕ) → times r xs ≤ 1) → IsDistinct eqb xs
unfolding IsDistinct
distinct [] once = tt
distinct (x ∷ xs) once = let here = one_here x in (none_same x xs (omega (arith, once x)), distinct xs (λ r. omega (arith, once r)))

found_once : (r : ℕ) (xs : List ℕ) → list_any (eqb r) xs ≡ true → 1 ≤ times r xs
found_once r [] e = absurd (cc)
found_once r (x ∷ xs) e = dite (ℕ_discrete x r)
    (λ c. let here = ap one_if (eq-eqb x r c) in omega arith)
    (λ c. omega (arith, found_once r xs (ap (λ b. b || list_any (eqb r) xs) (sym (ne_eqb r x (λ d. c (sym d)))) ∙ e)))

-- numbers below n that differ are at most n
pub distinct_few : (n : ℕ) (xs : List ℕ) → ((r : ℕ) → times r xs ≤ 1) → ((r : ℕ) → 1 ≤ times r xs → r < n) → length xs ≤ n
distinct_few n xs once low = length-le_from_distinct_below xs n (distinct xs once) (λ r e. low r (found_once r xs e))

-- ---- the numbers below n
below_none : (n r : ℕ) → n ≤ r → times r (below n) ≡ 0
below_none zero r l = refl
below_none (suc n) r l = let here = one_else n r (λ e. omega arith) in omega (arith, below_none n r (omega arith))

pub below_once : (n r : ℕ) → times r (below n) ≤ 1
below_once zero r = omega arith
below_once (suc n) r = dite (ℕ_discrete n r)
    (λ e. omega (arith, at_most_one (eqb n r), below_none n r (omega arith)))
    (λ c. omega (arith, one_else n r c, below_once n r))
