use Rattle.std.proofs.Common.{[], ◌∷◌, ap, ◌∙◌}
use Rattle.cordyceps_base.specs.Nodes.{block_element, nodes_of}
use Rattle.cordyceps_base.proofs.double_chain.DoubleChain.one.Goals as goal

pub of_one-requires : goal.of_one-requires
of_one-requires g c = (c.one-boxes.result.1, c.from_box.result.value, c.one-boxes.ensures)

pub returns : goal.returns
returns g c =
    let p = c.one-boxes.result.0.ptr in (p, c.of_one.ensures ∙ ap nodes_of c.one-boxes.ensures ∙ (λ i. (p, block_element (c.from_box.ensures i)) ∷ []) ∙ (λ i. (p, c.into_block.ensures i) ∷ []))
