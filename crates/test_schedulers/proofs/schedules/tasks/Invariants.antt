use Rattle.std.proofs.Common.{◌≡◌, length}
use Rattle.test_schedulers.proofs.schedules.tasks.Given as goal

abbrev pub invariant-loop-number : goal.invariant-loop-number
invariant-loop-number g l = length l.tasks ≡ l.number
