use Rattle.std.proofs.Common.{◌≡◌, ◌++◌, List, length}
use Rattle.cordyceps_shared_uses.specs.declared.scheduler.name.Name.{Name}
use Rattle.cordyceps_shared_uses.specs.Names.{names}
use Rattle.cordyceps_shared_uses.specs.Ways.{Sent}
use Rattle.cordyceps_shared_uses.proofs.scheduler.threads.submit.Given as goal

abbrev pub invariant-loop-task : goal.invariant-loop-task
invariant-loop-task g l = (before : List Name) × (names l.initial.tasks ≡ before ++ names l.tasks) × Sent before l.initial.party l.party

abbrev pub decreases-loop-task : goal.decreases-loop-task
decreases-loop-task g l = length l.tasks
