use Rattle.std.proofs.Common.{◌≡◌}
use Rattle.test_stacks.proofs.sorted_lists.pops.Given as goal

abbrev pub invariant-loop-wanted : goal.invariant-loop-wanted
invariant-loop-wanted g l = l.list.order ≡ l.fn.list.order
