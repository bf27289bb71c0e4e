use Rattle.std.proofs.Common.{rules}
use Rattle.cordyceps_shared_uses.proofs.timers.Timers.start.Goals as goal

pub returns-in-Ok-restart-clause-started : goal.returns-in-Ok-restart-clause-started
returns-in-Ok-restart-clause-started g c = search rules
