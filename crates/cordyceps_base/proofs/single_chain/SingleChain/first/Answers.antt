use Rattle.std.proofs.Common.{subst}
use Rattle.std.specs.Prelude.{◌≡◌, slice_get, Some}
use Rattle.cordyceps_base.specs.Element.{values}
use Rattle.cordyceps_base.specs.Nodes.{elements}
use Rattle.cordyceps_base.proofs.Nodes.{item_on}
use Rattle.cordyceps_base.proofs.SingleChain.{link_testable}
use Rattle.cordyceps_base.proofs.single_chain.SingleChain.first.Goals as goal

pub not_null-requires : goal.not_null-requires
not_null-requires g c = link_testable c.self.inside.head c.self.inside.boxes.blocks c.self.invariant.led c.self.invariant.comparable

pub returns-in-Some-clause-some : goal.returns-in-Some-clause-some
returns-in-Some-clause-some g c = subst (λ v. slice_get (values (elements v)) 0 ≡ Some c.get.result.now.value) c.self.view_is (item_on c.self.inside.boxes.blocks 0 c.get.result.now c.get.ensures)
