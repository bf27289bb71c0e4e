use Rattle.std.proofs.Common.{rules}
use Rattle.cordyceps_shared_uses.proofs.scheduler.places.Sleepers.into_tasks.Goals as goal

pub returns-clause-held : goal.returns-clause-held
returns-clause-held g c = search rules
