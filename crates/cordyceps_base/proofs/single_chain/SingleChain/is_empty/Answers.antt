use Rattle.std.proofs.Common.{rules}
use Rattle.cordyceps_base.proofs.SingleChain.{link_testable}
use Rattle.cordyceps_base.proofs.single_chain.SingleChain.is_empty.Goals as goal

pub not_null-requires : goal.not_null-requires
not_null-requires g c = link_testable c.self.inside.head c.self.inside.boxes.blocks c.self.invariant.led c.self.invariant.comparable

pub returns : goal.returns
returns g c = search rules
