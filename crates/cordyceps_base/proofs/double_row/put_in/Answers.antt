use Rattle.std.proofs.Common.{◌≡◌, ◌-◌, ◌∷◌, ◌++◌, slice_get, Some, refl, sym, ap, ◌∙◌, subst}
use denote.RawPtr.{null_ptr}
use Rattle.cordyceps_base.specs.Boxes.{box_addresses, box_values, set_value}
use Rattle.cordyceps_base.specs.DoubleChain.{Segment}
use Rattle.cordyceps_base.specs.Nodes.{block_element, nodes_of, OwnedNode}
use Rattle.cordyceps_base.proofs.DoubleChain.{with_next, with_prev}
use Rattle.cordyceps_base.proofs.InnerNodes.{linked_with, node_there, prev_there}
use Rattle.cordyceps_base.proofs.Nodes.{nodes_of-append, nodes_of-drop, nodes_of-set, nodes_of-take}
use Rattle.cordyceps_base.proofs.double_row.put_in.Goals as goal

pub get_mut-requires : goal.get_mut-requires
get_mut-requires g c =
    let (h, t, linked) = c.requires.linked in let ns = c.args.row.blocks in let b = c.get.result.now in
    subst (λ ls. slice_get (box_addresses ls) (c.args.k - 1) ≡ Some b.links.prev.ptr) (sym c.cut-front.ensures.0) (prev_there h t ns c.args.k c.args.at.ptr b linked c.requires.on c.get.ensures c.requires.inner)

pub get_mut-requires-2 : goal.get_mut-requires-2
get_mut-requires-2 g c =
    let (h, t, linked) = c.requires.linked in let ns = c.args.row.blocks in
    subst (λ ls. slice_get (box_addresses ls) 0 ≡ Some c.args.at.ptr) (sym c.cut-front.ensures.1) (node_there h t ns c.args.k c.args.at.ptr c.get.result.now linked c.requires.on c.get.ensures)

pub returns-clause-holds : goal.returns-clause-holds
returns-clause-holds g c =
    let ns = c.args.row.blocks in let k = c.args.k in let new = c.one-one.result.0 in let o = c.get_mut.result.now in let p = c.get_mut-2.result.now in
    let front = set_value c.cut-front.result.0.blocks (k - 1) (with_next o new) in let back = set_value c.cut-front.result.1.blocks 0 (with_prev p new) in
    let one : OwnedNode _ = (new.ptr, c.one-one.result.1, c.from_box.result.value) in
    let all = c.join-2.ensures ∙ ap (λ l. front ++ l) (c.join.ensures ∙ ap (λ l. l ++ back) c.one-one.ensures) in
    let node = ap block_element c.from_box.ensures ∙ ap block_element c.deref_mut-2.ensures.value ∙ ap block_element c.deref_mut.ensures.value ∙ c.into_block-block.ensures in
    let before = nodes_of-set c.cut-front.result.0.blocks (k - 1) o (with_next o new) c.get_mut.ensures.value refl refl ∙ ap nodes_of c.cut-front.ensures.0 ∙ nodes_of-take k ns in
    let after = nodes_of-set c.cut-front.result.1.blocks 0 p (with_prev p new) c.get_mut-2.ensures.value refl refl ∙ ap nodes_of c.cut-front.ensures.1 ∙ nodes_of-drop k ns in
    (new.ptr, ap nodes_of all ∙ nodes_of-append front (one ∷ back) ∙ (λ i. before i ++ (new.ptr, node i) ∷ after i))

pub returns-clause-linked : goal.returns-clause-linked
returns-clause-linked g c = λ h t linked.
    let ns = c.args.row.blocks in let k = c.args.k in let b = c.get.result.now in let new = c.one-one.result.0 in let o = c.get_mut.result.now in let p = c.get_mut-2.result.now in
    let front = c.cut-front.ensures.0 in let back = c.cut-front.ensures.1 in let x = c.from_box.result.value in
    let all = c.join-2.ensures ∙ (λ i. set_value (front i) (k - 1) (with_next o new) ++ (c.join.ensures ∙ (λ j. c.one-one.ensures j ++ set_value (back j) 0 (with_prev p new))) i) in
    let prev : x.links.prev.ptr ≡ b.links.prev.ptr = ap (λ v. v.links.prev.ptr) c.from_box.ensures ∙ ap (λ v. v.links.prev.ptr) c.deref_mut-2.ensures.value in
    let next : x.links.next.ptr ≡ c.args.at.ptr = ap (λ v. v.links.next.ptr) c.from_box.ensures in
    subst (λ ls. Segment null_ptr h ls t null_ptr) (sym all) (linked_with h t ns k c.args.at.ptr b linked c.requires.on c.get.ensures c.requires.inner new c.one-one.result.1 x o p prev next
    (subst (λ ls. slice_get (box_values ls) (k - 1) ≡ Some o) front c.get_mut.ensures.value) (subst (λ ls. slice_get (box_values ls) 0 ≡ Some p) back c.get_mut-2.ensures.value))
