use Rattle.std.proofs.Common.{◌≡◌, suc, ◌-◌, ◌<◌, ◌++◌, length, take, drop, slice_get, Some, ap, ◌∙◌, sym, subst, refl, arith}
use denote.RawPtr.{null_ptr}
use Rattle.cordyceps_base.specs.Boxes.{box_addresses, box_values, set_value}
use Rattle.cordyceps_base.specs.Nodes.{nodes_of}
use Rattle.cordyceps_base.specs.Spots.{AreNullComparable}
use Rattle.cordyceps_base.proofs.DoubleChain.{last_here, cut_before, front_end, front_cut, with_next}
use Rattle.cordyceps_base.proofs.Memory.{take-drop}
use Rattle.cordyceps_base.proofs.Nodes.{length_is, nodes_of-append, nodes_of-set}
use Rattle.cordyceps_base.proofs.Segments.{last_one}
use Rattle.cordyceps_base.proofs.double_chain.DoubleChain.without_last.Goals as goal

pub overflow_sub-before : goal.overflow_sub-before
overflow_sub-before g c =
    let i = c.self.inside in let seen = length_is i.boxes.blocks c.args.self c.self.view_is in let asked = c.requires in let long = c.self.invariant.long in omega (arith, seen, asked, long)

pub get-requires : goal.get-requires
get-requires g c =
    let i = c.self.inside in let seen = length_is i.boxes.blocks c.args.self c.self.view_is in let asked = c.requires in let long = c.self.invariant.long in
    last_here i.head.ptr i.tail.ptr i.len i.boxes.blocks c.self.invariant (omega (arith, seen, asked, long))

pub get_mut-requires : goal.get_mut-requires
get_mut-requires g c =
    let i = c.self.inside in let ns = i.boxes.blocks in let seen = length_is ns c.args.self c.self.view_is in let asked = c.requires in let long = c.self.invariant.long in
    let k = i.len - 1 in let pos : 0 < k = omega (arith, seen, asked, long) in let less : k < i.len = omega (arith, seen, asked, long) in let some : 0 < i.len = omega (arith, less) in
    let b = c.get.result.now in let h = i.head.ptr in let t = i.tail.ptr in let no = c.null.result in
    let parts = cut_before null_ptr h k ns t null_ptr t b c.self.invariant.segment (last_here h t i.len ns c.self.invariant some) c.get.ensures in
    subst (λ ls. slice_get (box_addresses ls) (k - 1) ≡ Some b.links.prev.ptr) (sym c.cut-front.ensures.0) (front_end k i.len ns h t b.links.prev.ptr t no no c.null.ensures c.null.ensures pos less long parts.0)

pub node_of-requires : goal.node_of-requires
node_of-requires g c =
    let i = c.self.inside in let ns = i.boxes.blocks in let seen = length_is ns c.args.self c.self.view_is in let asked = c.requires in let long = c.self.invariant.long in
    let on : suc (i.len - 1) ≡ length ns = omega (arith, seen, asked, long) in
    let (a, x, is) = last_one null_ptr i.head.ptr ns i.tail.ptr null_ptr (i.len - 1) on c.self.invariant.segment in (a, x, c.cut-front.ensures.1 ∙ is)

pub invariant_of-left : goal.invariant_of-left
invariant_of-left g c =
    let i = c.self.inside in let ns = i.boxes.blocks in let seen = length_is ns c.args.self c.self.view_is in let asked = c.requires in let long = c.self.invariant.long in
    let k = i.len - 1 in let pos : 0 < k = omega (arith, seen, asked, long) in let less : k < i.len = omega (arith, seen, asked, long) in let some : 0 < i.len = omega (arith, less) in
    let b = c.get.result.now in let h = i.head.ptr in let t = i.tail.ptr in let no = c.null.result in let o = c.get_mut.result.now in let cut = c.cut-front.ensures.0 in
    let parts = cut_before null_ptr h k ns t null_ptr t b c.self.invariant.segment (last_here h t i.len ns c.self.invariant some) c.get.ensures in
    front_cut k i.len ns h t b.links.prev.ptr t no no c.null.ensures c.null.ensures pos less long o c.null_comparable.result.blocks parts.0
    (subst (λ ls. slice_get (box_values ls) (k - 1) ≡ Some o) cut c.get_mut.ensures.value)
    (c.null_comparable.ensures.0 ∙ ap (λ ls. set_value ls (k - 1) (with_next o no)) cut)
    (subst (λ ls. AreNullComparable (box_addresses ls)) (sym c.null_comparable.ensures.0) c.null_comparable.ensures.1)

pub returns : goal.returns
returns g c =
    let ns = c.self.inside.boxes.blocks in let k = c.self.inside.len - 1 in let cut = c.cut-front.ensures in let o = c.get_mut.result.now in
    let one = ap nodes_of (sym cut.1) ∙ c.node_of.ensures in
    let left = ap nodes_of c.null_comparable.ensures.0 ∙ nodes_of-set c.cut-front.result.0.blocks (k - 1) o (with_next o c.null.result) c.get_mut.ensures.value refl refl ∙ ap nodes_of cut.0 in
    (c.self.inside.tail.ptr, sym c.self.view_is ∙ ap nodes_of (take-drop k ns) ∙ nodes_of-append (take k ns) (drop k ns) ∙ (λ i. sym left i ++ one i))
