use Rattle.std.proofs.Common.{[], ◌∷◌, ◌++◌, ◌∙◌}
use Rattle.cordyceps_base.proofs.double_chain.DoubleChain.link_back.Goals as goal

pub returns-clause-holds : goal.returns-clause-holds
returns-clause-holds g c =
    let address = c.with_last-nodes.result.1.ptr in
    c.put.ensures ∙ c.distinct.ensures.0 ∙ c.with_last-nodes.ensures ∙ (λ i. c.take.ensures.0 i ++ (address, c.args.node) ∷ [])
