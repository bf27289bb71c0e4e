use Rattle.std.proofs.Common.{◌≡◌, length}
use Rattle.cordyceps_scheduler.proofs.births.Given as goal

abbrev pub invariant-loop-number : goal.invariant-loop-number
invariant-loop-number l = length l.tasks ≡ l.number
