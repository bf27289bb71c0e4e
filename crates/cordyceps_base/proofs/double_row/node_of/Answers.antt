use Rattle.std.proofs.Common.{[], ◌∷◌, ap, ◌∙◌, sym}
use Rattle.cordyceps_base.specs.Nodes.{block_element, nodes_of}
use Rattle.cordyceps_base.proofs.double_row.node_of.Goals as goal

pub only-requires : goal.only-requires
only-requires g c = let (a, x, is) = c.requires in (x, is)

pub returns : goal.returns
returns g c = ap nodes_of c.only.ensures ∙ (λ i. (c.args.at.ptr, block_element (sym c.into_box.ensures i)) ∷ []) ∙ (λ i. (c.args.at.ptr, sym c.from_block.ensures i) ∷ [])
