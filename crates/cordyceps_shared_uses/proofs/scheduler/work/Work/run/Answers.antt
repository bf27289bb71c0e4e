use Rattle.std.proofs.Common.{rules}
use Rattle.cordyceps_shared_uses.proofs.scheduler.work.Work.run.Goals as goal

pub invariant_of-self : goal.invariant_of-self
invariant_of-self c = search rules
