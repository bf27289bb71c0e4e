use Rattle.std.proofs.Common.{refl}
use denote.RawPtr.{null_ptr}
use Rattle.cordyceps_base.proofs.DoubleChain.{with_prev, relinked_first}
use Rattle.cordyceps_base.proofs.Nodes.{nodes_of-set}
use Rattle.cordyceps_base.proofs.Segments.{first_testable, first_there, no_first}
use Rattle.cordyceps_base.proofs.double_row.preceded_by.Goals as goal

pub is_not_null-requires : goal.is_not_null-requires
is_not_null-requires g c = let (p, f) = c.requires.linked in first_testable p c.args.first.ptr c.args.row.blocks c.args.tail.ptr f c.requires.null_comparable

pub get_mut-requires : goal.get_mut-requires
get_mut-requires g c = let (p, f) = c.requires.linked in first_there p c.args.first.ptr c.args.row.blocks c.args.tail.ptr f c.if-is_not_null.ensures

pub returns-then-is_not_null-clause-linked : goal.returns-then-is_not_null-clause-linked
returns-then-is_not_null-clause-linked g c = let (p, f) = c.requires.linked in relinked_first p c.args.first.ptr c.args.row.blocks c.args.tail.ptr null_ptr c.args.prev c.get_mut.result.now f c.get_mut.ensures.value

pub returns-then-is_not_null-clause-same : goal.returns-then-is_not_null-clause-same
returns-then-is_not_null-clause-same g c = let b = c.get_mut.result.now in nodes_of-set c.args.row.blocks 0 b (with_prev b c.args.prev) c.get_mut.ensures.value refl refl

pub returns-else-is_not_null-clause-linked : goal.returns-else-is_not_null-clause-linked
returns-else-is_not_null-clause-linked g c = let (p, f) = c.requires.linked in no_first p c.args.first.ptr c.args.prev.ptr c.args.row.blocks c.args.tail.ptr f c.requires.null_comparable c.if-is_not_null.ensures
