use Rattle.std.proofs.Common.{◌≡◌, ◌+◌, ◌-◌, [], ◌∷◌, ◌++◌, take, drop, slice_get, Some, refl, sym, ap, ◌∙◌, subst}
use denote.RawPtr.{null_ptr}
use Rattle.cordyceps_base.specs.Boxes.{box_addresses, box_values, set_value}
use Rattle.cordyceps_base.specs.DoubleChain.{Segment}
use Rattle.cordyceps_base.specs.Nodes.{nodes_of}
use Rattle.cordyceps_base.proofs.DoubleChain.{with_next, with_prev}
use Rattle.cordyceps_base.proofs.InnerNodes.{linked_over, next_there, one_there, prev_there}
use Rattle.cordyceps_base.proofs.Memory.{take-drop}
use Rattle.cordyceps_base.proofs.Nodes.{nodes_of-append, nodes_of-drop, nodes_of-set, nodes_of-take}
use Rattle.cordyceps_base.proofs.Places.{seam}
use Rattle.cordyceps_base.proofs.double_row.cut_out.Goals as goal

pub get_mut-requires : goal.get_mut-requires
get_mut-requires g c =
    let (h, t, linked) = c.requires.linked in let ns = c.args.row.blocks in let b = c.get-block.result.now in
    subst (λ ls. slice_get (box_addresses ls) (c.args.k - 1) ≡ Some b.links.prev.ptr) (sym c.cut-front.ensures.0) (prev_there h t ns c.args.k c.args.at.ptr b linked c.requires.on c.get-block.ensures c.requires.inner.0)

pub get_mut-requires-2 : goal.get_mut-requires-2
get_mut-requires-2 g c =
    let (h, t, linked) = c.requires.linked in let ns = c.args.row.blocks in let b = c.get-block.result.now in let rest = c.cut-one.ensures.1 ∙ ap (drop 1) c.cut-front.ensures.1 in
    subst (λ ls. slice_get (box_addresses ls) 0 ≡ Some b.links.next.ptr) (sym rest) (next_there h t ns c.args.k c.args.at.ptr b linked c.requires.on c.get-block.ensures c.requires.inner.1)

pub node_of-requires : goal.node_of-requires
node_of-requires g c =
    let (h, t, linked) = c.requires.linked in
    let (a, x, is) = one_there h t c.args.row.blocks c.args.k c.args.at.ptr c.get-block.result.now linked c.requires.on c.get-block.ensures in
    (a, x, c.cut-one.ensures.0 ∙ ap (take 1) c.cut-front.ensures.1 ∙ is)

pub returns-clause-node : goal.returns-clause-node
returns-clause-node g c =
    let ns = c.args.row.blocks in let k = c.args.k in let v = nodes_of ns in
    let one : take 1 (drop k v) ≡ (c.args.at.ptr, c.node_of.result) ∷ [] =
    ap (take 1) (sym (nodes_of-drop k ns)) ∙ sym (nodes_of-take 1 (drop k ns)) ∙ ap nodes_of (sym (c.cut-one.ensures.0 ∙ ap (take 1) c.cut-front.ensures.1)) ∙ c.node_of.ensures in
    (seam v k (c.args.at.ptr, c.node_of.result) (drop 1 (drop k v)) (take-drop 1 (drop k v) ∙ ap (λ s. s ++ drop 1 (drop k v)) one)).here

pub returns-clause-others : goal.returns-clause-others
returns-clause-others g c =
    let ns = c.args.row.blocks in let k = c.args.k in let v = nodes_of ns in let b = c.get-block.result.now in let o = c.get_mut.result.now in let p = c.get_mut-2.result.now in
    let one : take 1 (drop k v) ≡ (c.args.at.ptr, c.node_of.result) ∷ [] =
    ap (take 1) (sym (nodes_of-drop k ns)) ∙ sym (nodes_of-take 1 (drop k ns)) ∙ ap nodes_of (sym (c.cut-one.ensures.0 ∙ ap (take 1) c.cut-front.ensures.1)) ∙ c.node_of.ensures in
    let rest : drop 1 (drop k v) ≡ drop (k + 1) v = (seam v k (c.args.at.ptr, c.node_of.result) (drop 1 (drop k v)) (take-drop 1 (drop k v) ∙ ap (λ s. s ++ drop 1 (drop k v)) one)).after in
    let front = nodes_of-set c.cut-front.result.0.blocks (k - 1) o (with_next o b.links.next) c.get_mut.ensures.value refl refl ∙ ap nodes_of c.cut-front.ensures.0 ∙ nodes_of-take k ns in
    let back = nodes_of-set c.cut-one.result.1.blocks 0 p (with_prev p b.links.prev) c.get_mut-2.ensures.value refl refl ∙ ap nodes_of (c.cut-one.ensures.1 ∙ ap (drop 1) c.cut-front.ensures.1) ∙ nodes_of-drop 1 (drop k ns) ∙ ap (drop 1) (nodes_of-drop k ns) ∙ rest in
    ap nodes_of c.join.ensures ∙ nodes_of-append (set_value c.cut-front.result.0.blocks (k - 1) (with_next o b.links.next)) (set_value c.cut-one.result.1.blocks 0 (with_prev p b.links.prev)) ∙ (λ i. front i ++ back i)

pub returns-clause-linked : goal.returns-clause-linked
returns-clause-linked g c = λ h t linked.
    let ns = c.args.row.blocks in let k = c.args.k in let b = c.get-block.result.now in let o = c.get_mut.result.now in let p = c.get_mut-2.result.now in
    let front = c.cut-front.ensures.0 in let rest = c.cut-one.ensures.1 ∙ ap (drop 1) c.cut-front.ensures.1 in
    let all = c.join.ensures ∙ (λ i. set_value (front i) (k - 1) (with_next o b.links.next) ++ set_value (rest i) 0 (with_prev p b.links.prev)) in
    subst (λ ls. Segment null_ptr h ls t null_ptr) (sym all) (linked_over h t ns k c.args.at.ptr b linked c.requires.on c.get-block.ensures c.requires.inner.0 o p
    (subst (λ ls. slice_get (box_values ls) (k - 1) ≡ Some o) front c.get_mut.ensures.value) (subst (λ ls. slice_get (box_values ls) 0 ≡ Some p) rest c.get_mut-2.ensures.value))
