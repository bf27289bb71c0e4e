use Rattle.std.proofs.Common.{◌∷◌, ◌∙◌}
use Rattle.cordyceps_base.proofs.double_chain.DoubleChain.link_front.Goals as goal

pub returns-clause-holds : goal.returns-clause-holds
returns-clause-holds g c =
    let address = c.with_first-nodes.result.1.ptr in
    c.put.ensures ∙ c.distinct.ensures.0 ∙ c.with_first-nodes.ensures ∙ (λ i. (address, c.args.node) ∷ c.take.ensures.0 i)
