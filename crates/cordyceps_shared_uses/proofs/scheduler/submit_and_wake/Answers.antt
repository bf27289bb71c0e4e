use Rattle.cordyceps_shared_uses.specs.Names.{names}
use Rattle.cordyceps_shared_uses.proofs.Scheduling.{woken_after}
use Rattle.cordyceps_shared_uses.proofs.scheduler.submit_and_wake.Goals as goal

pub returns : goal.returns
returns g c = woken_after (names c.args.tasks) c.submit.ensures c.wake.ensures
