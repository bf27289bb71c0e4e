use Rattle.std.proofs.Common.{sym, ap, subst}
use denote.RawPtr.{Testable}
use Rattle.cordyceps_many.proofs.Threads.{null_Testable}
use Rattle.cordyceps_map.specs.Nullable.{spot_of}
use Rattle.cordyceps_map.proofs.link.Link.none.Goals as goal

pub invariant_of-result : goal.invariant_of-result
invariant_of-result c = subst Testable (sym c.null.ensures) null_Testable

pub returns : goal.returns
returns c = ap spot_of c.null.ensures
