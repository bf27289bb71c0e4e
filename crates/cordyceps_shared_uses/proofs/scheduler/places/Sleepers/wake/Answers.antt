use Rattle.std.proofs.Common.{rules}
use Rattle.cordyceps_shared_uses.proofs.scheduler.places.Sleepers.wake.Goals as goal

pub returns-in_default-clause-woken : goal.returns-in_default-clause-woken
returns-in_default-clause-woken g c = search rules

pub returns-in_default-clause-time : goal.returns-in_default-clause-time
returns-in_default-clause-time g c = search rules

pub returns-clause-woken : goal.returns-clause-woken
returns-clause-woken g c = search rules
