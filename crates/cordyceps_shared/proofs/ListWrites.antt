-- Reads of a list after a write to it.
use Rattle.std.proofs.Common.{◌≡◌, ◌≢◌, ℕ, zero, suc, ◌<◌, List, [], ◌∷◌, length, get_or, refl, ap, sym}
use Rattle.std.specs.Prelude.{Some, slice_get, slice_set}
use Rattle.std.proofs.lemmas.Option.{slice_get-get_or}
use Rattle.cordyceps_shared.specs.Rooms.{change}

module _ {X : Type 0} where
  pub slice_get-set_same : (xs : List X) (i : ℕ) (w y : X) → slice_get xs i ≡ Some y → slice_get (slice_set xs i w) i ≡ Some w
  slice_get-set_same [] i w y h = absurd cc
  slice_get-set_same (x ∷ xs) zero w y h = refl
  slice_get-set_same (x ∷ xs) (suc i) w y h = slice_get-set_same xs i w y h

  pub slice_get-set_other : (xs : List X) (i j : ℕ) (w : X) → j ≢ i → slice_get (slice_set xs i w) j ≡ slice_get xs j
  slice_get-set_other [] i j w h = refl
  slice_get-set_other (x ∷ xs) zero zero w h = absurd (h refl)
  slice_get-set_other (x ∷ xs) zero (suc j) w h = refl
  slice_get-set_other (x ∷ xs) (suc i) zero w h = refl
  slice_get-set_other (x ∷ xs) (suc i) (suc j) w h = slice_get-set_other xs i j w (λ e. h (ap suc e))

  pub slice_get-change_same : (f : X → X) (xs : List X) (i : ℕ) (y : X) → slice_get xs i ≡ Some y
      → slice_get (change f i xs) i ≡ Some (f y)
  slice_get-change_same f [] i y h = absurd cc
  slice_get-change_same f (x ∷ xs) zero y h = let e : x ≡ y = cc in ap (λ z. Some (f z)) e
  slice_get-change_same f (x ∷ xs) (suc i) y h = slice_get-change_same f xs i y h

  pub slice_get-change_other : (f : X → X) (xs : List X) (i j : ℕ) → j ≢ i → slice_get (change f i xs) j ≡ slice_get xs j
  slice_get-change_other f [] i j h = refl
  slice_get-change_other f (x ∷ xs) zero zero h = absurd (h refl)
  slice_get-change_other f (x ∷ xs) zero (suc j) h = refl
  slice_get-change_other f (x ∷ xs) (suc i) zero h = refl
  slice_get-change_other f (x ∷ xs) (suc i) (suc j) h = slice_get-change_other f xs i j (λ e. h (ap suc e))

  pub length-change : (f : X → X) (i : ℕ) (xs : List X) → length (change f i xs) ≡ length xs
  length-change f i [] = refl
  length-change f zero (x ∷ xs) = refl
  length-change f (suc i) (x ∷ xs) = ap suc (length-change f i xs)

  -- a write of what f makes of the item that was read
  pub set_change : (f : X → X) (xs : List X) (i : ℕ) (y : X) → slice_get xs i ≡ Some y → slice_set xs i (f y) ≡ change f i xs
  set_change f [] i y h = absurd cc
  set_change f (x ∷ xs) zero y h = let e : x ≡ y = cc in ap (λ z. f z ∷ xs) (sym e)
  set_change f (x ∷ xs) (suc i) y h = ap (λ zs. x ∷ zs) (set_change f xs i y h)

  pub set_as_it_was : (xs : List X) (i : ℕ) (y : X) → slice_get xs i ≡ Some y → slice_set xs i y ≡ xs
  set_as_it_was [] i y h = absurd cc
  set_as_it_was (x ∷ xs) zero y h = let e : x ≡ y = cc in ap (λ z. z ∷ xs) (sym e)
  set_as_it_was (x ∷ xs) (suc i) y h = ap (λ zs. x ∷ zs) (set_as_it_was xs i y h)

  pub set_change_at : (f : X → X) (xs : List X) (i : ℕ) (d : X) → i < length xs → slice_set xs i (f (get_or xs i d)) ≡ change f i xs
  set_change_at f xs i d h = set_change f xs i (get_or xs i d) (slice_get-get_or xs i d h)
