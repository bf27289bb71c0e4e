use Rattle.std.proofs.Common.{refl, sym, ap, subst}
use Rattle.cordyceps_base.specs.Nodes.{nodes_of}
use Rattle.cordyceps_base.specs.DoubleChain.{IsLinked}
use Rattle.cordyceps_base.proofs.double_chain.DoubleChain.empty.Goals as goal

pub invariant_of-result : goal.invariant_of-result
invariant_of-result g c = subst (IsLinked c.null.result.ptr c.null-2.result.ptr 0) (sym c.empty.ensures) (record { long = refl; comparable = tt; segment = (c.null.ensures, c.null-2.ensures) })

pub returns : goal.returns
returns g c = ap nodes_of c.empty.ensures
