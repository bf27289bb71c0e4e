use Rattle.std.proofs.Common.{◌≡◌, suc, ◌-◌, ◌<◌, ◌++◌, length, drop, slice_get, Some, subst, sym, ap, ◌∙◌, arith}
use Rattle.cordyceps_base.specs.Boxes.{box_addresses, box_values, set_value}
use Rattle.cordyceps_base.specs.Nodes.{nodes_of}
use Rattle.cordyceps_base.specs.DoubleChain.{Segment}
use Rattle.cordyceps_base.proofs.DoubleChain.{with_next}
use Rattle.cordyceps_base.proofs.Segments.{null_Testable, last_testable, some_last, last_there, last_relinked, shown_relinked, no_last}
use Rattle.cordyceps_base.proofs.double_row.followed_by.Goals as goal

pub is_not_null-requires : goal.is_not_null-requires
is_not_null-requires g c = let (q, f) = c.requires.linked in last_testable _ c.args.head.ptr c.args.row.blocks c.args.last.ptr q f c.requires.null_comparable null_Testable

pub get_mut-requires : goal.get_mut-requires
get_mut-requires g c =
    let (q, f) = c.requires.linked in let ns = c.args.row.blocks in let some : 0 < length ns = some_last c.args.head.ptr ns c.args.last.ptr q f c.if-is_not_null.ensures in
    let on : suc (length ns - 1) ≡ length ns = omega (arith, some) in
    subst (λ ms. slice_get (box_addresses ms) 0 ≡ Some c.args.last.ptr) (sym c.cut_last-front.ensures.1) (last_there _ c.args.head.ptr ns c.args.last.ptr q (length ns - 1) on f)

pub returns-then-is_not_null-clause-linked : goal.returns-then-is_not_null-clause-linked
returns-then-is_not_null-clause-linked g c =
    let (q, f) = c.requires.linked in let ns = c.args.row.blocks in let b = c.get_mut.result.now in let some : 0 < length ns = some_last c.args.head.ptr ns c.args.last.ptr q f c.if-is_not_null.ensures in
    let on : suc (length ns - 1) ≡ length ns = omega (arith, some) in
    let read : slice_get (box_values (drop (length ns - 1) ns)) 0 ≡ Some b = subst (λ ms. slice_get (box_values ms) 0 ≡ Some b) c.cut_last-front.ensures.1 c.get_mut.ensures.value in
    subst (λ ms. Segment _ c.args.head.ptr ms c.args.last.ptr c.args.next.ptr) (sym (c.join.ensures ∙ (λ i. c.cut_last-front.ensures.0 i ++ set_value (c.cut_last-front.ensures.1 i) 0 (with_next b c.args.next))))
    (last_relinked _ c.args.head.ptr ns c.args.last.ptr q c.args.next b (length ns - 1) on f read)

pub returns-then-is_not_null-clause-same : goal.returns-then-is_not_null-clause-same
returns-then-is_not_null-clause-same g c =
    let ns = c.args.row.blocks in let b = c.get_mut.result.now in
    let read : slice_get (box_values (drop (length ns - 1) ns)) 0 ≡ Some b = subst (λ ms. slice_get (box_values ms) 0 ≡ Some b) c.cut_last-front.ensures.1 c.get_mut.ensures.value in
    ap nodes_of (c.join.ensures ∙ (λ i. c.cut_last-front.ensures.0 i ++ set_value (c.cut_last-front.ensures.1 i) 0 (with_next b c.args.next))) ∙ shown_relinked ns (length ns - 1) b c.args.next read

pub returns-else-is_not_null-clause-linked : goal.returns-else-is_not_null-clause-linked
returns-else-is_not_null-clause-linked g c = let (q, f) = c.requires.linked in no_last c.args.head.ptr c.args.next.ptr c.args.row.blocks c.args.last.ptr q f c.requires.null_comparable c.if-is_not_null.ensures
