-- Numbers that are powers of two.
use Rattle.std.specs.Int.{IsPowerOfTwo}
use Rattle.std.proofs.Common.{◌<◌, ℕ, sym, subst}
use Rattle.std.proofs.lemmas.Nat.{pow_pos}

pub positive : (n : ℕ) → IsPowerOfTwo n → 0 < n
positive n p = subst (λ z. 0 < z) (sym p.1) (pow_pos p.0)
