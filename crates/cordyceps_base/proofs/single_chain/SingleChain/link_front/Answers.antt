use Rattle.std.proofs.Common.{◌++◌, ◌∙◌}
use Rattle.cordyceps_base.proofs.single_chain.SingleChain.link_front.Goals as goal

pub returns : goal.returns
returns g c = (c.one.ensures.0, c.put.ensures ∙ c.join.ensures ∙ (λ i. c.one.ensures.1 i ++ c.take-rest.ensures.0 i))
