use Rattle.std.proofs.Common.{rules}
use Rattle.cordyceps_shared_uses.proofs.scheduler.run.Goals as goal

pub returns-clause-each_once : goal.returns-clause-each_once
returns-clause-each_once g c = search rules
