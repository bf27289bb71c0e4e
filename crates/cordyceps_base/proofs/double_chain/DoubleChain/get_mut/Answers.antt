use Rattle.std.proofs.Common.{subst, refl, ap, ◌∙◌}
use Rattle.std.specs.Prelude.{◌≡◌, slice_get, Some}
use Rattle.cordyceps_base.specs.Element.{values}
use Rattle.cordyceps_base.specs.Nodes.{elements, with_item}
use Rattle.cordyceps_base.proofs.DoubleChain.{linked_keep}
use Rattle.cordyceps_base.proofs.Nodes.{at_place, item_on, nodes_of-item}
use Rattle.cordyceps_base.proofs.double_chain.DoubleChain.get_mut.Goals as goal

pub get_mut-block-requires : goal.get_mut-block-requires
get_mut-block-requires g c = at_place c.self.inside.boxes.blocks c.args.self.now c.self.view_is c.args.k c.args.at.ptr c.requires

pub invariant_of-self-lent : goal.invariant_of-self-lent
invariant_of-self-lent g c =
    λ w. let i = c.self.inside in linked_keep i.head.ptr i.tail.ptr i.len i.boxes.blocks c.args.k c.get_mut-block.result.now w c.self.invariant c.get_mut-block.ensures.value

pub returns : goal.returns
returns g c =
    let ns = c.self.inside.boxes.blocks in let k = c.args.k in let b = c.get_mut-block.result.now in (
      (refl, λ w. nodes_of-item ns k b w c.get_mut-block.ensures.value ∙ ap (λ v. with_item v k w) c.self.view_is),
      record { writes_back = tt; value = subst (λ v. slice_get (values (elements v)) k ≡ Some b.value) c.self.view_is (item_on ns k b c.get_mut-block.ensures.value) },
    )
