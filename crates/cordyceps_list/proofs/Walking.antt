-- Walks of a predicate, answer by answer.
use Rattle.std.proofs.Common.{◌≡◌, ℕ, zero, suc, ◌+◌, Bool, true, false, List, [], ◌∷◌, length, drop, slice_get, Some, refl, subst, add-one}
use Rattle.cordyceps_list.specs.Walks.{Walks}

module _ {F X : Type 0} (R : F → X → Bool → F → Type 0) where
  -- past the last item nothing is asked
  pub walk_end : (xs : List X) (f : F) → Walks R f (drop (length xs) xs) 0 f
  walk_end [] f = (refl, refl)
  walk_end (x ∷ xs) f = walk_end xs f

  -- `true` of the item at a place
  pub walk_stop : (xs : List X) (k : ℕ) (x : X) (f g : F) → slice_get xs k ≡ Some x → R f x true g → Walks R f (drop k xs) 0 g
  walk_stop [] zero x f g h c = absurd cc
  walk_stop [] (suc k) x f g h c = absurd cc
  walk_stop (y ∷ xs) zero x f g h c = let e : x ≡ y = cc in (true, g, subst (λ z. R f z true g) e c, (refl, refl))
  walk_stop (y ∷ xs) (suc k) x f g h c = walk_stop xs k x f g h c

  step : (xs : List X) (k n : ℕ) (x : X) (f h g : F) → slice_get xs k ≡ Some x → R f x false h → Walks R h (drop (suc k) xs) n g → Walks R f (drop k xs) (n + 1) g
  step [] zero n x f h g e c w = absurd cc
  step [] (suc k) n x f h g e c w = absurd cc
  step (y ∷ xs) zero n x f h g e c w = let q : x ≡ y = cc in (false, h, subst (λ z. R f z false h) q c, (n, refl, w))
  step (y ∷ xs) (suc k) n x f h g e c w = step xs k n x f h g e c w

  -- `false` of the item at a place, and then the others
  pub walk_step : (xs : List X) (k n : ℕ) (x : X) (f h g : F) → slice_get xs k ≡ Some x → R f x false h → Walks R h (drop (k + 1) xs) n g → Walks R f (drop k xs) (n + 1) g
  walk_step xs k n x f h g e c w = step xs k n x f h g e c (subst (λ (j : ℕ). Walks R h (drop j xs) n g) (add-one k) w)
