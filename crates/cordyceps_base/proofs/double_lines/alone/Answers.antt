use Rattle.std.proofs.Common.{ap, ◌∙◌, refl, sym, subst, slice_get}
use denote.RawPtr.{null_ptr}
use Rattle.cordyceps_base.specs.Boxes.{box_addresses}
use Rattle.cordyceps_base.specs.DoubleChain.{Segment, prev_of}
use Rattle.cordyceps_base.specs.Nodes.{nodes_of}
use Rattle.cordyceps_base.specs.Spots.{AreNullComparable}
use Rattle.cordyceps_base.proofs.DoubleChain.{with_next}
use Rattle.cordyceps_base.proofs.LineEnds.{alone_led}
use Rattle.cordyceps_base.proofs.Nodes.{nodes_of-set}
use Rattle.cordyceps_base.proofs.double_lines.alone.Goals as goal

pub get_mut-requires : goal.get_mut-requires
get_mut-requires g c = let (a, x, e) = c.requires in ap (λ ls. slice_get (box_addresses ls) 0) e

pub invariant_of-result : goal.invariant_of-result
invariant_of-result g c =
    let (a, x, e) = c.requires in let p = c.args.at.ptr in
    let is = c.null_comparable.ensures.0 ∙ alone_led p a x c.null.result c.get_mut.result.now c.args.row.blocks e c.get_mut.ensures.value in
    record {
      comparable = subst (λ ls. AreNullComparable (box_addresses ls)) (sym c.null_comparable.ensures.0) c.null_comparable.ensures.1;
      prev = prev_of x;
      last = p;
      linked = subst (λ ls. Segment (prev_of x) p ls p null_ptr) (sym is) ((refl, refl), (c.null.ensures, refl));
    }

pub returns : goal.returns
returns g c =
    let row = c.args.row.blocks in let b = c.get_mut.result.now in
    ap nodes_of c.null_comparable.ensures.0 ∙ nodes_of-set row 0 b (with_next b c.null.result) c.get_mut.ensures.value refl refl
