use Rattle.std.proofs.Common.{sym, ap, subst}
use denote.RawPtr.{null_ptr}
use Rattle.cordyceps_base.specs.DoubleLines.{IsGrowing}
use Rattle.cordyceps_base.specs.Nodes.{nodes_of}
use Rattle.cordyceps_base.proofs.double_lines.Growing.empty.Goals as goal

pub invariant_of-result : goal.invariant_of-result
invariant_of-result g c = subst (IsGrowing c.null.result.ptr c.null-2.result.ptr) (sym c.empty.ensures) (record { comparable = tt; next = null_ptr; linked = (c.null.ensures, c.null-2.ensures) })

pub returns : goal.returns
returns g c = ap nodes_of c.empty.ensures
