use Rattle.std.proofs.Common.{rules}
use Rattle.cordyceps_shared_uses.proofs.scheduler.places.Runnable.take.Goals as goal

pub returns-clause-oldest : goal.returns-clause-oldest
returns-clause-oldest g c = search rules

pub returns-clause-mine : goal.returns-clause-mine
returns-clause-mine g c = search rules
