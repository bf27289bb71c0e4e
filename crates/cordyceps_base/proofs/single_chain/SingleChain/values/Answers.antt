use Rattle.std.proofs.Common.{sym, ap, subst}
use Rattle.cordyceps_base.specs.Element.{values}
use Rattle.cordyceps_base.specs.Nodes.{elements}
use Rattle.cordyceps_base.specs.SingleChain.{IsLed}
use Rattle.cordyceps_base.proofs.SingleChain.{link_testable}
use Rattle.cordyceps_base.proofs.single_chain.SingleChain.values.Goals as goal

pub not_null-requires : goal.not_null-requires
not_null-requires g c = link_testable c.self.inside.head c.self.inside.boxes.blocks c.self.invariant.led c.self.invariant.comparable

pub invariant_of-result : goal.invariant_of-result
invariant_of-result g c = (subst (λ h. IsLed h c.self.inside.boxes.blocks) (sym c.not_null.ensures) c.self.invariant.led, c.self.invariant.comparable)

pub returns : goal.returns
returns g c = ap (λ v. values (elements v)) c.self.view_is
