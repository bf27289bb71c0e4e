use Rattle.std.proofs.Common.{[], ◌∷◌, length, ap, ◌∙◌, sym}
use Rattle.cordyceps_base.specs.Nodes.{block_element, nodes_of}
use Rattle.cordyceps_base.proofs.SingleChain.{single}
use Rattle.cordyceps_base.proofs.single_chain.SingleChain.only.Goals as goal

pub only-requires : goal.only-requires
only-requires g c = let i = c.self.inside in single i.tail.ptr i.boxes.blocks (record {}) c.self.invariant.ends (ap length c.self.view_is ∙ c.requires)

pub returns : goal.returns
returns g c =
    let address = c.self.inside.tail.ptr in (address, sym c.self.view_is ∙ ap nodes_of c.only.ensures ∙ (λ i. (address, block_element (sym c.into_box.ensures i)) ∷ []) ∙ (λ i. (address, sym c.from_block.ensures i) ∷ []))
