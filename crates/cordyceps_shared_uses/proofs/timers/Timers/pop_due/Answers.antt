use Rattle.std.proofs.Common.{rules}
use Rattle.cordyceps_shared_uses.proofs.timers.Timers.pop_due.Goals as goal

pub returns-in-Some-clause-popped : goal.returns-in-Some-clause-popped
returns-in-Some-clause-popped g c = search rules

pub returns-in-None-clause-popped : goal.returns-in-None-clause-popped
returns-in-None-clause-popped g c = search rules
