use Rattle.std.proofs.Common.{◌≡◌, refl, ◌∙◌, sym, slice_get}
use Rattle.cordyceps_base.specs.Boxes.{box_addresses}
use Rattle.cordyceps_base.specs.Element.{values}
use Rattle.cordyceps_base.specs.Nodes.{elements, with_item}
use Rattle.cordyceps_base.specs.Spots.{index_of}
use Rattle.cordyceps_base.proofs.DoubleChain.{linked_keep}
use Rattle.cordyceps_base.proofs.Nodes.{at_place, item_on, nodes_of-item, spots_are}
use Rattle.cordyceps_base.proofs.double_chain.DoubleChain.get_at_mut.Goals as goal

pub at_mut-block-requires : goal.at_mut-block-requires
at_mut-block-requires g c = (c.requires.0, at_place c.self.inside.boxes.blocks c.args.self.now c.self.view_is c.requires.0 c.args.at.ptr c.requires.1)

pub invariant_of-self-lent : goal.invariant_of-self-lent
invariant_of-self-lent g c =
    λ w. let i = c.self.inside in linked_keep i.head.ptr i.tail.ptr i.len i.boxes.blocks (index_of c.args.at.ptr (box_addresses i.boxes.blocks)) c.at_mut-block.result.now w c.self.invariant c.at_mut-block.ensures.value

pub returns : goal.returns
returns g c =
    let ns = c.self.inside.boxes.blocks in let p = c.args.at.ptr in let k = index_of p (box_addresses ns) in let b = c.at_mut-block.result.now in
    let on : box_addresses ns ≡ _ = sym (spots_are ns c.args.self.now c.self.view_is) in (
      (refl, λ w. nodes_of-item ns k b w c.at_mut-block.ensures.value ∙ (λ i. with_item (c.self.view_is i) (index_of p (on i)) w)),
      record { writes_back = tt; value = sym (λ i. slice_get (values (elements (c.self.view_is i))) (index_of p (on i))) ∙ item_on ns k b c.at_mut-block.ensures.value },
    )
