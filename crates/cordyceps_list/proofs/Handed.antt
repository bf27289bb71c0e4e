-- What the iterator of a list's handles gives: no more than the list has.
use Rattle.std.proofs.Common.{◌≤◌, List, [], ◌∷◌, length, ap, arith}
use Rattle.std.specs.Iterator.{Yields, YieldsFirstBy}
use Rattle.cordyceps_base.specs.Element.{Element, Elements}

pub handed_within : {X H : Type 0} (element : H → Element X) (s t : Elements X) (taken : List H) → Yields (YieldsFirstBy element (λ l. l)) s taken t → length taken ≤ length s
handed_within element s t [] y = omega arith
handed_within element s t (h ∷ taken) (mid, step, more) =
    let rest = handed_within element mid t taken more in
    omega (arith, ap length step)
