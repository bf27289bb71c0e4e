use Rattle.std.proofs.Common.{◌≡◌, ◌-◌, ◌<◌, length, slice_get, Some, ap, ◌∙◌, sym, subst}
use Rattle.cordyceps_base.specs.Boxes.{box_addresses}
use Rattle.cordyceps_base.specs.Element.{values}
use Rattle.cordyceps_base.specs.Nodes.{elements, nodes_of}
use Rattle.cordyceps_base.proofs.Nodes.{item_on, length-nodes_of}
use Rattle.cordyceps_base.proofs.SingleChain.{last_place, item_after, some_nodes}
use Rattle.cordyceps_base.proofs.single_chain.SingleChain.last.Goals as goal

pub get-requires : goal.get-requires
get-requires g c =
    let i = c.self.inside in let ns = i.boxes.blocks in let some : 0 < length ns = some_nodes ns (λ e. let empty = c.if-is_empty.ensures.1 (sym c.self.view_is ∙ e) in cc) in
    subst (λ ms. slice_get (box_addresses ms) 0 ≡ Some i.tail.ptr) (sym c.only_last-last.ensures) (last_place ns i.tail.ptr c.self.invariant.ends some)

pub returns-clause-some : goal.returns-clause-some
returns-clause-some g c =
    let ns = c.self.inside.boxes.blocks in let b = c.get.result.now in let k = length ns - 1 in
    let there = item_on c.only_last-last.result.now.blocks 0 b c.get.ensures in
    let here = sym (item_after k ns) ∙ ap (λ l. slice_get (values (elements (nodes_of l))) 0) (sym c.only_last-last.ensures) ∙ there in
    let long = sym (length-nodes_of ns) in
    subst (λ v. slice_get (values (elements v)) (length v - 1) ≡ Some b.value) c.self.view_is (subst (λ j. slice_get (values (elements (nodes_of ns))) (j - 1) ≡ Some b.value) long here)
