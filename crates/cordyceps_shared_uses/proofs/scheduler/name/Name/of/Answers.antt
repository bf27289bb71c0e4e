use Rattle.std.proofs.Common.{rules}
use Rattle.cordyceps_shared_uses.proofs.scheduler.name.Name.of.Goals as goal

pub returns : goal.returns
returns g c = search rules
