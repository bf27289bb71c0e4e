use Rattle.std.proofs.Common.{◌≡◌}
use Rattle.test_stacks.proofs.sorted_lists.insert_all.Given as goal

abbrev pub invariant-loop-number : goal.invariant-loop-number
invariant-loop-number g l = l.list.order ≡ l.fn.list.order
