use Rattle.std.proofs.Common.{◌≡◌, length}
use Rattle.test_stack_threads.proofs.items.batch.Given as goal

abbrev pub invariant-loop-pushed : goal.invariant-loop-pushed
invariant-loop-pushed g l = length l.batch ≡ l.pushed
