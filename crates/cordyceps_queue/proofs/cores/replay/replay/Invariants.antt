use Rattle.std.proofs.Common.{length}
use Rattle.cordyceps_base.specs.Runs.{Ran}
use Rattle.cordyceps_queue.specs.Cores.CoreMeets.{core_step}
use Rattle.cordyceps_queue.proofs.cores.replay.replay.Given as goal

abbrev pub invariant-loop-replies : goal.invariant-loop-replies
invariant-loop-replies g l = Ran core_step l.fn.steps.items l.fn.core l.core l.replies.items l.steps.items

abbrev pub decreases-loop-replies : goal.decreases-loop-replies
decreases-loop-replies g l = length l.steps.items
