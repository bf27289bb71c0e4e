use Rattle.std.proofs.Common.{[], ◌∷◌, ap, ◌∙◌}
use Rattle.cordyceps_base.specs.Nodes.{block_element, nodes_of}
use Rattle.cordyceps_base.proofs.double_lines.Line.one.Goals as goal

pub alone-requires : goal.alone-requires
alone-requires g c = (c.one-row.result.1, c.from_box.result.value, c.one-row.ensures)

pub returns : goal.returns
returns g c =
    let p = c.one-row.result.0.ptr in c.alone.ensures ∙ ap nodes_of c.one-row.ensures ∙ (λ i. (p, block_element (c.from_box.ensures i)) ∷ []) ∙ (λ i. (p, c.into_block.ensures i) ∷ [])
