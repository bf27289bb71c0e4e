use Rattle.std.proofs.Common.{◌∷◌, [], ◌++◌, ap, ◌∙◌, sym, subst, refl, slice_get}
use denote.RawPtr.{null_ptr}
use Rattle.cordyceps_base.specs.Boxes.{box_addresses}
use Rattle.cordyceps_base.specs.DoubleChain.{Segment}
use Rattle.cordyceps_base.proofs.DoubleChain.{with_next, with_prev, linked_one, segment_join}
use Rattle.cordyceps_base.proofs.Nodes.{box_addresses-set}
use Rattle.cordyceps_base.proofs.double_row.between.Goals as goal

pub get_mut-requires : goal.get_mut-requires
get_mut-requires g c = let (a, x, e) = c.requires.one in ap (λ ls. slice_get (box_addresses ls) 0) e

pub get_mut-requires-2 : goal.get_mut-requires-2
get_mut-requires-2 g c =
    let (a, x, e) = c.requires.one in ap (λ ps. slice_get ps 0) (box_addresses-set c.args.one.blocks 0 (with_next c.get_mut.result.now c.args.back.first)) ∙ ap (λ ls. slice_get (box_addresses ls) 0) e

pub returns-clause-linked : goal.returns-clause-linked
returns-clause-linked g c =
    let (a, v, e) = c.requires.one in let at = c.args.at.ptr in let nx = c.args.back.first in let pr = c.args.front.last in
    let f = c.followed_by-front.result.1.blocks in let r = c.preceded_by-back.result.1.blocks in let h = c.followed_by-front.result.0.ptr in let t = c.preceded_by-back.result.0.ptr in
    let is = linked_one at a v nx pr c.get_mut.result.now c.get_mut-2.result.now c.args.one.blocks e c.get_mut.ensures.value c.get_mut-2.ensures.value in
    let w = with_prev (with_next v nx) pr in
    let back : Segment pr.ptr at ((at, a, w) ∷ [] ++ r) t null_ptr = ((refl, refl), c.preceded_by-back.ensures.linked) in
    subst (λ ls. Segment null_ptr h ls t null_ptr) (sym (c.join-row.ensures ∙ ap (λ ls. f ++ ls) (c.join.ensures ∙ ap (λ ls. ls ++ r) is)))
    (segment_join null_ptr h f pr.ptr at ((at, a, w) ∷ [] ++ r) t null_ptr c.followed_by-front.ensures.linked back)
