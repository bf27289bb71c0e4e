use Rattle.std.proofs.Common.{◌∷◌, sym, ap, ◌∙◌}
use Rattle.cordyceps_base.proofs.single_chain.SingleChain.unlink_front.Goals as goal

pub returns : goal.returns
returns g c =
    let (address, is) = c.split_first-node.ensures in (address, sym c.take.ensures.0 ∙ is ∙ ap (λ l. (address, c.split_first-node.result.0) ∷ l) (sym c.put.ensures))
