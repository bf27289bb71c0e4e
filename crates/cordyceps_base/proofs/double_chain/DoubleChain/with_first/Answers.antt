use Rattle.std.proofs.Common.{◌∷◌, ◌++◌, length, slice_get, ap, ◌∙◌, sym, subst, refl, arith}
use denote.RawPtr.{null_ptr}
use Rattle.cordyceps_base.specs.Boxes.{box_addresses, set_value}
use Rattle.cordyceps_base.specs.Nodes.{nodes_of, block_element}
use Rattle.cordyceps_base.specs.Spots.{AreNullComparable}
use Rattle.cordyceps_base.specs.DoubleChain.{Segment}
use Rattle.cordyceps_base.proofs.DoubleChain.{first_here, relinked_first, with_next, with_prev, linked_one}
use Rattle.cordyceps_base.proofs.Nodes.{length_is, length-set_value, box_addresses-set, nodes_of-set}
use Rattle.cordyceps_base.proofs.double_chain.DoubleChain.with_first.Goals as goal

pub get_mut-requires : goal.get_mut-requires
get_mut-requires g c =
    let i = c.self.inside in let seen = length_is i.boxes.blocks c.args.self c.self.view_is in let asked = c.requires.some in let long = c.self.invariant.long in
    first_here i.head.ptr i.tail.ptr i.len i.boxes.blocks c.self.invariant (omega (arith, seen, asked, long))

pub get_mut-requires-2 : goal.get_mut-requires-2
get_mut-requires-2 g c = ap (λ ls. slice_get (box_addresses ls) 0) c.one-new.ensures

pub get_mut-requires-3 : goal.get_mut-requires-3
get_mut-requires-3 g c =
    let (at, heap, row) = c.one-new.result in ap (λ ps. slice_get ps 0) (box_addresses-set row.blocks 0 (with_next c.get_mut-2.result.now c.self.inside.head)) ∙ ap (λ ls. slice_get (box_addresses ls) 0) c.one-new.ensures

pub invariant_of-whole : goal.invariant_of-whole
invariant_of-whole g c =
    let i = c.self.inside in let ns = i.boxes.blocks in let long = c.self.invariant.long in let t = i.tail.ptr in
    let (at, heap, row) = c.one-new.result in let o = c.get_mut.result.now in let x = c.from_box.result.value in let rest = set_value ns 0 (with_prev o at) in
    let new = linked_one at.ptr heap x i.head c.null.result c.get_mut-2.result.now c.get_mut-3.result.now row.blocks c.one-new.ensures c.get_mut-2.ensures.value c.get_mut-3.ensures.value in
    let all = c.null_comparable.ensures.0 ∙ c.join.ensures ∙ ap (λ l. l ++ rest) new in
    let on = relinked_first null_ptr i.head.ptr ns t null_ptr at o c.self.invariant.segment c.get_mut.ensures.value in record {
      long = omega (arith, long, ap length all, length-set_value ns 0 (with_prev o at));
      comparable = subst (λ ls. AreNullComparable (box_addresses ls)) (sym c.null_comparable.ensures.0) c.null_comparable.ensures.1;
      segment = subst (λ ls. Segment null_ptr at.ptr ls t null_ptr) (sym all) ((refl, c.null.ensures), on);
    }

pub returns : goal.returns
returns g c =
    let i = c.self.inside in let ns = i.boxes.blocks in let (at, heap, row) = c.one-new.result in let o = c.get_mut.result.now in let x = c.from_box.result.value in let rest = set_value ns 0 (with_prev o at) in
    let new = linked_one at.ptr heap x i.head c.null.result c.get_mut-2.result.now c.get_mut-3.result.now row.blocks c.one-new.ensures c.get_mut-2.ensures.value c.get_mut-3.ensures.value in
    let all = c.null_comparable.ensures.0 ∙ c.join.ensures ∙ ap (λ l. l ++ rest) new in
    let node = ap block_element c.from_box.ensures ∙ c.into_block.ensures in
    let keep = nodes_of-set ns 0 o (with_prev o at) c.get_mut.ensures.value refl refl ∙ c.self.view_is in
    ap nodes_of all ∙ (λ i. (at.ptr, node i) ∷ keep i)
