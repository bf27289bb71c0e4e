use Rattle.std.proofs.Common.{[], ◌++◌, sym, ap, ◌∙◌, subst}
use Rattle.std.proofs.lemmas.List.{append-nil}
use denote.RawPtr.{null_ptr}
use Rattle.cordyceps_base.specs.Boxes.{box_addresses}
use Rattle.cordyceps_base.specs.DoubleChain.{Segment}
use Rattle.cordyceps_base.specs.Nodes.{nodes_of}
use Rattle.cordyceps_base.specs.Spots.{AreNullComparable}
use Rattle.cordyceps_base.proofs.DoubleChain.{segment_join}
use Rattle.cordyceps_base.proofs.Nodes.{nodes_of-append}
use Rattle.cordyceps_base.proofs.double_lines.Growing.ended.Goals as goal

pub followed_by-row-requires-clause-linked : goal.followed_by-row-requires-clause-linked
followed_by-row-requires-clause-linked g c = (c.self.invariant.next, c.self.invariant.linked)

pub followed_by-row-requires-clause-null_comparable : goal.followed_by-row-requires-clause-null_comparable
followed_by-row-requires-clause-null_comparable g c = c.self.invariant.comparable

pub front_preceded_by-more-requires-clause-linked : goal.front_preceded_by-more-requires-clause-linked
front_preceded_by-more-requires-clause-linked g c = let more = c.rest.inside.row.blocks in (more, [], sym (append-nil more), (c.rest.invariant.prev, c.rest.invariant.last, c.rest.invariant.linked))

pub front_preceded_by-more-requires-clause-null_comparable : goal.front_preceded_by-more-requires-clause-null_comparable
front_preceded_by-more-requires-clause-null_comparable g c = c.rest.invariant.comparable

pub invariant_of-result : goal.invariant_of-result
invariant_of-result g c =
    let more = c.rest.inside.row.blocks in let h = c.followed_by-row.result.0.ptr in
    let (m, is, same, (t, f)) = c.front_preceded_by-more.ensures more [] (sym (append-nil more)) (c.rest.invariant.prev, c.rest.invariant.last, c.rest.invariant.linked) in
    let all = c.null_comparable.ensures.0 ∙ c.join.ensures ∙ ap (λ s. c.followed_by-row.result.1.blocks ++ s) (is ∙ append-nil m) in
    record {
      comparable = subst (λ ls. AreNullComparable (box_addresses ls)) (sym c.null_comparable.ensures.0) c.null_comparable.ensures.1;
      prev = null_ptr;
      last = t;
      linked = subst (λ ls. Segment null_ptr h ls t null_ptr) (sym all) (segment_join null_ptr h c.followed_by-row.result.1.blocks c.self.inside.last.ptr c.rest.inside.first.ptr m t null_ptr c.followed_by-row.ensures.linked f);
    }

pub returns : goal.returns
returns g c =
    let more = c.rest.inside.row.blocks in
    let (m, is, same, led) = c.front_preceded_by-more.ensures more [] (sym (append-nil more)) (c.rest.invariant.prev, c.rest.invariant.last, c.rest.invariant.linked) in
    ap nodes_of (c.null_comparable.ensures.0 ∙ c.join.ensures) ∙ nodes_of-append c.followed_by-row.result.1.blocks c.front_preceded_by-more.result.blocks
    ∙ (λ i. (c.followed_by-row.ensures.same ∙ c.self.view_is) i ++ (ap nodes_of (is ∙ append-nil m) ∙ same ∙ c.rest.view_is) i)
