use Rattle.std.proofs.Common.{◌≡◌, ◌++◌, length, reverse}
use Rattle.cordyceps_shared_uses.proofs.run_queue.add_all.Given as goal

abbrev pub invariant-loop-job : goal.invariant-loop-job
invariant-loop-job l = reverse l.more ++ l.done ≡ reverse l.initial.more ++ l.initial.done

abbrev pub decreases-loop-job : goal.decreases-loop-job
decreases-loop-job l = length l.more
