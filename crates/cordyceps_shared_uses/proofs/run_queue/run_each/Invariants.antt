use Rattle.std.proofs.Common.{◌≡◌, ◌++◌, length, map, reverse}
use Rattle.cordyceps_shared_uses.specs.RunQueue.{ran}
use Rattle.cordyceps_shared_uses.proofs.run_queue.run_each.Given as goal

abbrev pub invariant-loop-job : goal.invariant-loop-job
invariant-loop-job l = reverse (map ran l.jobs) ++ l.done ≡ reverse (map ran l.initial.jobs) ++ l.initial.done

abbrev pub decreases-loop-job : goal.decreases-loop-job
decreases-loop-job l = length l.jobs
