use Rattle.std.proofs.Common.{length, ap, ◌∙◌, refl, sym, subst, slice_get}
use denote.RawPtr.{null_ptr}
use Rattle.cordyceps_base.specs.Boxes.{box_addresses, set_value}
use Rattle.cordyceps_base.specs.DoubleChain.{Segment}
use Rattle.cordyceps_base.specs.Nodes.{nodes_of}
use Rattle.cordyceps_base.specs.Spots.{AreNullComparable}
use Rattle.cordyceps_base.proofs.DoubleChain.{with_next, with_prev, linked_one}
use Rattle.cordyceps_base.proofs.Nodes.{box_addresses-set, nodes_of-set}
use Rattle.cordyceps_base.proofs.double_chain.DoubleChain.of_one.Goals as goal

pub get_mut-requires : goal.get_mut-requires
get_mut-requires g c = let (a, x, e) = c.requires in ap (λ ls. slice_get (box_addresses ls) 0) e

pub get_mut-requires-2 : goal.get_mut-requires-2
get_mut-requires-2 g c =
    let (a, x, e) = c.requires in ap (λ ps. slice_get ps 0) (box_addresses-set c.args.row.blocks 0 (with_next c.get_mut.result.now c.null.result)) ∙ ap (λ ls. slice_get (box_addresses ls) 0) e

pub invariant_of-result : goal.invariant_of-result
invariant_of-result g c =
    let (a, x, e) = c.requires in let p = c.args.at.ptr in
    let is = c.null_comparable.ensures.0 ∙ linked_one p a x c.null.result c.null-2.result c.get_mut.result.now c.get_mut-2.result.now c.args.row.blocks e c.get_mut.ensures.value c.get_mut-2.ensures.value in
    record {
      long = ap length (sym is);
      comparable = subst (λ ls. AreNullComparable (box_addresses ls)) (sym c.null_comparable.ensures.0) c.null_comparable.ensures.1;
      segment = subst (λ ls. Segment null_ptr p ls p null_ptr) (sym is) ((refl, c.null-2.ensures), (c.null.ensures, refl));
    }

pub returns : goal.returns
returns g c =
    let row = c.args.row.blocks in let b = c.get_mut.result.now in let d = c.get_mut-2.result.now in
    ap nodes_of c.null_comparable.ensures.0 ∙ nodes_of-set (set_value row 0 (with_next b c.null.result)) 0 d (with_prev d c.null-2.result) c.get_mut-2.ensures.value refl refl ∙ nodes_of-set row 0 b (with_next b c.null.result) c.get_mut.ensures.value refl refl
