use Rattle.std.proofs.Common.{◌≡◌, ◌<◌, ◌++◌, take, drop, slice_get, Some, ap, ◌∙◌, sym, subst, refl, arith}
use denote.RawPtr.{null_ptr}
use Rattle.cordyceps_base.specs.Boxes.{box_addresses, box_values, set_value}
use Rattle.cordyceps_base.specs.Nodes.{nodes_of}
use Rattle.cordyceps_base.specs.Spots.{AreNullComparable}
use Rattle.cordyceps_base.proofs.DoubleChain.{first_here, cut_after, back_end, back_cut, with_prev}
use Rattle.cordyceps_base.proofs.Memory.{take-drop}
use Rattle.cordyceps_base.proofs.Nodes.{length_is, nodes_of-append, nodes_of-set}
use Rattle.cordyceps_base.proofs.Segments.{first_one}
use Rattle.cordyceps_base.proofs.double_chain.DoubleChain.without_first.Goals as goal

pub get-requires : goal.get-requires
get-requires g c =
    let i = c.self.inside in let seen = length_is i.boxes.blocks c.args.self c.self.view_is in let asked = c.requires in let long = c.self.invariant.long in
    first_here i.head.ptr i.tail.ptr i.len i.boxes.blocks c.self.invariant (omega (arith, seen, asked, long))

pub get_mut-requires : goal.get_mut-requires
get_mut-requires g c =
    let i = c.self.inside in let ns = i.boxes.blocks in let seen = length_is ns c.args.self c.self.view_is in let asked = c.requires in let long = c.self.invariant.long in
    let some : 0 < i.len = omega (arith, seen, asked, long) in let less : 1 < i.len = omega (arith, seen, asked, long) in
    let b = c.get.result.now in let h = i.head.ptr in let no = c.null.result in
    let parts = cut_after null_ptr h 0 ns i.tail.ptr null_ptr h b c.self.invariant.segment (first_here h i.tail.ptr i.len ns c.self.invariant some) c.get.ensures in
    subst (λ ls. slice_get (box_addresses ls) 0 ≡ Some b.links.next.ptr) (sym c.cut-one.ensures.1) (back_end 1 i.len ns h i.tail.ptr h b.links.next.ptr no no c.null.ensures c.null.ensures (omega arith) less long parts.1)

pub node_of-requires : goal.node_of-requires
node_of-requires g c =
    let i = c.self.inside in let ns = i.boxes.blocks in let seen = length_is ns c.args.self c.self.view_is in let asked = c.requires in
    let (a, x, is) = first_one null_ptr i.head.ptr ns i.tail.ptr null_ptr (omega (arith, seen, asked)) c.self.invariant.segment in (a, x, c.cut-one.ensures.0 ∙ is)

pub invariant_of-left : goal.invariant_of-left
invariant_of-left g c =
    let i = c.self.inside in let ns = i.boxes.blocks in let seen = length_is ns c.args.self c.self.view_is in let asked = c.requires in let long = c.self.invariant.long in
    let some : 0 < i.len = omega (arith, seen, asked, long) in let less : 1 < i.len = omega (arith, seen, asked, long) in
    let b = c.get.result.now in let h = i.head.ptr in let no = c.null.result in let o = c.get_mut.result.now in let cut = c.cut-one.ensures.1 in
    let parts = cut_after null_ptr h 0 ns i.tail.ptr null_ptr h b c.self.invariant.segment (first_here h i.tail.ptr i.len ns c.self.invariant some) c.get.ensures in
    back_cut 1 i.len ns h i.tail.ptr h b.links.next.ptr no no c.null.ensures c.null.ensures (omega arith) less long o c.null_comparable.result.blocks parts.1
    (subst (λ ls. slice_get (box_values ls) 0 ≡ Some o) cut c.get_mut.ensures.value)
    (c.null_comparable.ensures.0 ∙ ap (λ ls. set_value ls 0 (with_prev o no)) cut)
    (subst (λ ls. AreNullComparable (box_addresses ls)) (sym c.null_comparable.ensures.0) c.null_comparable.ensures.1)

pub returns : goal.returns
returns g c =
    let ns = c.self.inside.boxes.blocks in let cut = c.cut-one.ensures in let o = c.get_mut.result.now in
    let one = ap nodes_of (sym cut.0) ∙ c.node_of.ensures in
    let left = ap nodes_of c.null_comparable.ensures.0 ∙ nodes_of-set c.cut-one.result.1.blocks 0 o (with_prev o c.null.result) c.get_mut.ensures.value refl refl ∙ ap nodes_of cut.1 in
    (c.self.inside.head.ptr, sym c.self.view_is ∙ ap nodes_of (take-drop 1 ns) ∙ nodes_of-append (take 1 ns) (drop 1 ns) ∙ (λ i. one i ++ sym left i))
