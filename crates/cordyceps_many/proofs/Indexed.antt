-- What a row has at an index.
use Rattle.std.proofs.Common.{◌≡◌, ℕ, zero, suc, List, [], ◌∷◌, slice_index_or, refl}
use Rattle.cordyceps_many.specs.declared.hook.Ends.{Ends}
use Rattle.cordyceps_many.specs.Threads.{no_ends, ends_in}

pub ends_is : (es : List Ends) (i : ℕ) → slice_index_or es i no_ends ≡ ends_in es i
ends_is [] i = refl
ends_is (e ∷ es) zero = refl
ends_is (e ∷ es) (suc i) = ends_is es i
