-- Sums over what each item gives, and of two functions that give the same.
use Rattle.std.proofs.Common.{◌≡◌, ℕ, ◌+◌, List, [], ◌∷◌, flat_map, refl, ap, ◌∙◌, arith}
use Rattle.cordyceps_shared.specs.Counts.{tally}
use Rattle.cordyceps_shared.proofs.Counting.{tally_append}

pub tally_flat_map : {X Y : Type 0} (h : X → List Y) (f : Y → ℕ) (xs : List X) → tally f (flat_map h xs) ≡ tally (λ x. tally f (h x)) xs
tally_flat_map h f [] = refl
tally_flat_map h f (x ∷ xs) = tally_append f (h x) (flat_map h xs) ∙ ap (λ n. tally f (h x) + n) (tally_flat_map h f xs)

pub tally_same : {X : Type 0} (f g : X → ℕ) (xs : List X) → ((x : X) → f x ≡ g x) → tally f xs ≡ tally g xs
tally_same f g [] same = refl
tally_same f g (x ∷ xs) same = omega (arith, same x, tally_same f g xs same)
