use Rattle.std.proofs.Common.{sym, ap, subst, refl}
use denote.RawPtr.{null_ptr}
use Rattle.cordyceps_base.specs.DoubleLines.{IsDoubleLine}
use Rattle.cordyceps_base.specs.Nodes.{nodes_of}
use Rattle.cordyceps_base.proofs.double_lines.Line.empty.Goals as goal

pub invariant_of-result : goal.invariant_of-result
invariant_of-result g c = subst (IsDoubleLine c.null.result.ptr) (sym c.empty.ensures) (record { comparable = tt; prev = null_ptr; last = null_ptr; linked = (c.null.ensures, refl) })

pub returns : goal.returns
returns g c = ap nodes_of c.empty.ensures
