use Rattle.std.proofs.Common.{◌≡◌}
use Rattle.test_stack_threads.proofs.pushed_at_once.come_in_order.Given as goal

abbrev pub invariant-loop-number : goal.invariant-loop-number
invariant-loop-number g l = l.party.table ≡ l.initial.party.table
