-- Lists by the places of their items, and rooms whose slots are empty at home.
use Rattle.std.proofs.Common.{◌≡◌, ◌⊎◌, ℕ, zero, suc, ◌+◌, ◌<◌, ◌≤◌, List, [], ◌∷◌, ◌++◌, length, map, replicate, take, drop, None, refl, sym, ap, subst, inl, inr, arith}
use mathlib.Core.Option.{some}
use mathlib.Core.Logic.{dite}
use native.Mathlib.Decide.{ℕ_discrete}
use lib.ListN.{get_elem?}
use Rattle.cordyceps_shared.specs.Counts.{times}
use Rattle.cordyceps_shared.specs.Places.{ItemAt}
use Rattle.cordyceps_shared.specs.Slots.{Homes, Near, EmptyAtHome}
use Rattle.cordyceps_shared.proofs.Counting.{one_here, one_else}

module _ {A : Type 0} where
  pub at_take : (n : ℕ) (xs : List A) (i : ℕ) (x : A) → ItemAt (take n xs) i x → ItemAt xs i x × (i < n)
  at_take zero xs i x a = absurd a
  at_take (suc n) [] i x a = absurd a
  at_take (suc n) (y ∷ ys) zero x a = (a, omega arith)
  at_take (suc n) (y ∷ ys) (suc i) x a = let t = at_take n ys i x a in let l = t.1 in (t.0, omega arith)

  pub at_drop : (n : ℕ) (xs : List A) (i : ℕ) (x : A) → ItemAt (drop n xs) i x → (j : ℕ) × ItemAt xs j x × (j ≡ n + i)
  at_drop zero xs i x a = (i, a, omega arith)
  at_drop (suc n) [] i x a = absurd a
  at_drop (suc n) (y ∷ ys) i x a = let t = at_drop n ys i x a in let l = t.2 in (suc t.0, t.1, omega arith)

  pub at_either : (xs ys : List A) (i : ℕ) (x : A) → ItemAt (xs ++ ys) i x → ItemAt xs i x ⊎ ((j : ℕ) × ItemAt ys j x × (i ≡ length xs + j))
  at_either [] ys i x a = inr (i, a, omega arith)
  at_either (z ∷ zs) ys zero x a = inl a
  at_either (z ∷ zs) ys (suc i) x a = elim (at_either zs ys i x a) [ inl t ↦ inl t | inr t ↦ let l = t.2 in inr (t.0, t.1, omega arith) ]

  pub at_end : (xs : List A) (x : A) → ItemAt (xs ++ x ∷ []) (length xs) x
  at_end [] x = refl
  at_end (y ∷ ys) x = at_end ys x

-- how often a number is in a list that has it at a place
pub times_some : (r : ℕ) (xs : List ℕ) (i : ℕ) → ItemAt xs i r → 1 ≤ times r xs
times_some r [] i a = absurd a
times_some r (x ∷ xs) zero a = let here = one_here r in let same = ap (λ y. times r (y ∷ xs)) a in omega arith
times_some r (x ∷ xs) (suc i) a = omega (arith, times_some r xs i a)

pub times_at : (r : ℕ) (xs : List ℕ) → 1 ≤ times r xs → (i : ℕ) × ItemAt xs i r
times_at r [] l = absurd (omega arith)
times_at r (x ∷ xs) l = dite (ℕ_discrete x r)
    (λ e. (0, sym e))
    (λ n. let none = one_else x r n in let t = times_at r xs (omega arith) in (suc t.0, t.1))

-- ---- rooms of a table

pub near_first : (slots r : ℕ) (rs xs : List ℕ) → xs ≡ r ∷ rs → Near slots xs → r < slots
near_first slots r rs xs is near = near 0 r (subst (λ l. ItemAt l 0 r) (sym is) refl)

pub near_drop : (slots n : ℕ) (xs : List ℕ) → Near slots xs → Near slots (drop n xs)
near_drop slots n xs near i r a = let t = at_drop n xs i r a in near t.0 r t.1

pub near_take : (slots n : ℕ) (xs : List ℕ) → Near slots xs → Near slots (take n xs)
near_take slots n xs near i r a = near i r (at_take n xs i r a).0

pub near_append : (slots : ℕ) (xs ys : List ℕ) → Near slots xs → Near slots ys → Near slots (xs ++ ys)
near_append slots xs ys near near_too i r a = elim (at_either xs ys i r a) [ inl t ↦ near i r t | inr t ↦ near_too t.0 r t.1 ]

vacant_at : {A : Type 0} (n i : ℕ) (a : A) → i < n → get_elem? (map some (replicate n a)) i ≡ some (some a)
vacant_at zero i a h = absurd (omega arith)
vacant_at (suc n) zero a h = refl
vacant_at (suc n) (suc i) a h = vacant_at n i a (omega arith)

module _ {X : Type 0} where
  -- in a new table
  pub empty_new : (n : ℕ) (rooms : List ℕ) → ((i r : ℕ) → ItemAt rooms i r → r < n) → EmptyAtHome {X = X} (map some (replicate n None)) rooms
  empty_new n rooms low i r a = vacant_at n r None (low i r a)

  pub empty_drop : (homes : Homes X) (n : ℕ) (rooms : List ℕ) → EmptyAtHome homes rooms → EmptyAtHome homes (drop n rooms)
  empty_drop homes n rooms e i r a = let t = at_drop n rooms i r a in e t.0 r t.1

  pub empty_take : (homes : Homes X) (n : ℕ) (rooms : List ℕ) → EmptyAtHome homes rooms → EmptyAtHome homes (take n rooms)
  empty_take homes n rooms e i r a = e i r (at_take n rooms i r a).0

  pub empty_append : (homes : Homes X) (xs ys : List ℕ) → EmptyAtHome homes xs → EmptyAtHome homes ys → EmptyAtHome homes (xs ++ ys)
  empty_append homes xs ys x y i r a = elim (at_either xs ys i r a) [ inl t ↦ x i r t | inr t ↦ y t.0 r t.1 ]
