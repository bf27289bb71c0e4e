-- Places in a sequence, and whether they are the same.
use Rattle.std.proofs.Common.{◌≡◌, ◌≢◌, ℕ, zero, suc, ◌<◌, ◌≤◌, [], ◌∷◌, length, Some, None, slice_get, inl, inr, arith}
use Rattle.std.specs.Prelude.{◌⊎◌}
use Rattle.std.proofs.lemmas.Bool.{cases_lt}
use Rattle.cordyceps_base.specs.Element.{Elements, values}

pub same_or_not : (a b : ℕ) → (a ≡ b) ⊎ (b ≢ a)
same_or_not a b = elim (cases_lt a b) [
  | inl lt ↦ inr (λ e. omega arith)
  | inr ge ↦ elim (cases_lt b a) [ inl lt ↦ inr (λ e. omega arith) | inr le ↦ inl (omega arith) ]
]

module _ {X : Type 0} where
  -- where there is a value, the place is inside
  pub inside : (s : Elements X) (k : ℕ) (x : X) → Some x ≡ slice_get (values s) k → k < length s
  inside [] k x is = absurd cc
  inside (e ∷ s) zero x is = omega arith
  inside (e ∷ s) (suc k) x is = let lt = inside s k x is in omega arith

  -- where there is none, it is not
  pub past_end : (s : Elements X) (k : ℕ) → None ≡ slice_get (values s) k → length s ≤ k
  past_end [] k is = omega arith
  past_end (e ∷ s) zero is = absurd cc
  past_end (e ∷ s) (suc k) is = let over = past_end s k is in omega arith
