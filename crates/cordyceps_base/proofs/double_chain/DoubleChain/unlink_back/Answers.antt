use Rattle.std.proofs.Common.{[], ◌∷◌, ◌++◌, sym, ◌∙◌}
use Rattle.cordyceps_base.proofs.double_chain.DoubleChain.unlink_back.Goals as goal

pub returns : goal.returns
returns g c =
    let (address, is) = c.without_last-node.ensures in
    (address, sym c.take-nodes.ensures.0 ∙ is ∙ (λ i. sym c.put.ensures i ++ (address, c.without_last-node.result.0) ∷ []))
