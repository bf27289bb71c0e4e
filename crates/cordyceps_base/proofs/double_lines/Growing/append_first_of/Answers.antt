use Rattle.std.proofs.Common.{◌++◌, sym, ap, ◌∙◌, subst, refl, arith, slice_get}
use denote.RawPtr.{null_ptr}
use Rattle.cordyceps_base.specs.Boxes.{box_addresses}
use Rattle.cordyceps_base.specs.DoubleChain.{Segment, next_of}
use Rattle.cordyceps_base.specs.Nodes.{nodes_of}
use Rattle.cordyceps_base.specs.Spots.{AreNullComparable}
use Rattle.cordyceps_base.proofs.DoubleChain.{with_prev, segment_join}
use Rattle.cordyceps_base.proofs.Nodes.{nodes_of-append, nodes_of-set, length_is}
use Rattle.cordyceps_base.proofs.LineEnds.{line_first, rest_line, first_alone, first_relinked, cut_shown}
use Rattle.cordyceps_base.proofs.double_lines.Growing.append_first_of.Goals as goal

pub get-requires : goal.get-requires
get-requires g c = line_first c.line.inside.first.ptr c.line.inside.row.blocks c.args.line c.line.view_is c.line.invariant c.requires

pub followed_by-row-requires-clause-linked : goal.followed_by-row-requires-clause-linked
followed_by-row-requires-clause-linked g c = (c.self.invariant.next, c.self.invariant.linked)

pub followed_by-row-requires-clause-null_comparable : goal.followed_by-row-requires-clause-null_comparable
followed_by-row-requires-clause-null_comparable g c = c.self.invariant.comparable

pub get_mut-requires : goal.get_mut-requires
get_mut-requires g c =
    let ns = c.line.inside.row.blocks in let h = c.line.inside.first.ptr in let long = length_is ns c.args.line c.line.view_is in let asked = c.requires in
    let (a, x, e) = first_alone h ns c.cut-one.result.0.blocks c.line.invariant (omega (arith, long, asked)) c.cut-one.ensures.0 in
    ap (λ ls. slice_get (box_addresses ls) 0) e

pub invariant_of-grown : goal.invariant_of-grown
invariant_of-grown g c =
    let ns = c.line.inside.row.blocks in let at = c.line.inside.first.ptr in let long = length_is ns c.args.line c.line.view_is in let asked = c.requires in
    let h = c.followed_by-row.result.0.ptr in let b = c.get.result.now in let last = c.self.inside.last in
    record {
      comparable = subst (λ ls. AreNullComparable (box_addresses ls)) (sym c.null_comparable.ensures.0) c.null_comparable.ensures.1;
      next = next_of b;
      linked = subst (λ ls. Segment null_ptr h ls at (next_of b)) (sym (c.null_comparable.ensures.0 ∙ c.join.ensures))
          (segment_join null_ptr h c.followed_by-row.result.1.blocks last.ptr at _ at (next_of b) c.followed_by-row.ensures.linked
          (first_relinked at ns c.cut-one.result.0.blocks b c.get_mut.result.now last c.line.invariant (omega (arith, long, asked)) c.get.ensures c.cut-one.ensures.0 c.get_mut.ensures.value));
    }

pub invariant_of-left : goal.invariant_of-left
invariant_of-left g c =
    let ns = c.line.inside.row.blocks in let h = c.line.inside.first.ptr in let long = length_is ns c.args.line c.line.view_is in let asked = c.requires in
    rest_line h ns c.null_comparable-2.result.blocks c.get.result.now c.line.invariant (omega (arith, long, asked)) c.get.ensures (c.null_comparable-2.ensures.0 ∙ c.cut-one.ensures.1)
    (subst (λ ls. AreNullComparable (box_addresses ls)) (sym c.null_comparable-2.ensures.0) c.null_comparable-2.ensures.1)

pub returns : goal.returns
returns g c =
    let ns = c.line.inside.row.blocks in let h = c.line.inside.first.ptr in let long = length_is ns c.args.line c.line.view_is in let asked = c.requires in
    let one = c.cut-one.result.0.blocks in let d = c.get_mut.result.now in let last = c.self.inside.last in
    let (e, first, whole) = cut_shown h ns one c.cut-one.result.1.blocks c.args.line (nodes_of c.null_comparable-2.result.blocks) c.line.view_is c.line.invariant (omega (arith, long, asked)) c.cut-one.ensures.0 c.cut-one.ensures.1
    (ap nodes_of (sym c.null_comparable-2.ensures.0)) in (
      h,
      e,
      ap nodes_of (c.null_comparable.ensures.0 ∙ c.join.ensures) ∙ nodes_of-append c.followed_by-row.result.1.blocks _
          ∙ (λ i. (c.followed_by-row.ensures.same ∙ c.self.view_is) i ++ (nodes_of-set one 0 d (with_prev d last) c.get_mut.ensures.value refl refl ∙ first) i),
      whole,
    )
