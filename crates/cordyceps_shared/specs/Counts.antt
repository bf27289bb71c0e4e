-- Sums over lists.
use Rattle.std.specs.Prelude.{◌≡◌, ℕ, zero, suc, ◌+◌, List, [], ◌∷◌, Bool, cond, nat_eq}

-- the sum of f over a list
abbrev pub tally : {X : Type 0} → (X → ℕ) → List X → ℕ
tally f [] = 0
tally f (x ∷ xs) = f x + tally f xs

-- the same items, each as often: the sums of any f are the same
abbrev pub Same : {X : Type 0} → List X → List X → Type 0
Same {X} xs ys = (f : X → ℕ) → tally f xs ≡ tally f ys

abbrev pub one_if : Bool → ℕ
one_if b = cond b 1 0

-- how often n is in a list
abbrev pub times : ℕ → List ℕ → ℕ
times n xs = tally (λ x. one_if (nat_eq x n)) xs

-- the numbers below n, from the greatest on
abbrev pub below : ℕ → List ℕ
below zero = []
below (suc n) = n ∷ below n
