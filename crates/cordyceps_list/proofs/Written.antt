-- Places and values.
use Rattle.std.proofs.Common.{◌≡◌, ℕ, ◌+◌, ◌%◌, length, slice_get, None, sym, arith}
use Rattle.std.proofs.lemmas.List.{length-map}
use Rattle.std.proofs.Math.Nat.{mod-eq_of_lt}
use Rattle.std.proofs.lemmas.Option.{slice_get_past}
use Rattle.cordyceps_base.specs.Element.{Elements, values}

pub none_before_first : {X : Type 0} (s : Elements X) (k : ℕ) → k ≡ 0 → None ≡ slice_get (values s) ((k + length s) % (length s + 1))
none_before_first s k z = sym (slice_get_past (values s) _ (omega (arith, length-map s (λ e. e.value), z, mod-eq_of_lt {n = k + length s} {m = length s + 1} (omega (arith, z)))))

pub none_past : {X : Type 0} (s : Elements X) (k : ℕ) → k ≡ length s → None ≡ slice_get (values s) k
none_past s k z = sym (slice_get_past (values s) _ (omega (arith, length-map s (λ e. e.value), z)))
