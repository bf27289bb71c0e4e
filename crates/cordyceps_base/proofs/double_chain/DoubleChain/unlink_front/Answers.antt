use Rattle.std.proofs.Common.{◌∷◌, sym, ◌∙◌}
use Rattle.cordyceps_base.proofs.double_chain.DoubleChain.unlink_front.Goals as goal

pub returns : goal.returns
returns g c =
    let (address, is) = c.without_first-node.ensures in
    (address, sym c.take-nodes.ensures.0 ∙ is ∙ (λ i. (address, c.without_first-node.result.0) ∷ sym c.put.ensures i))
