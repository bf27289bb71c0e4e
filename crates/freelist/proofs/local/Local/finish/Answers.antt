use Rattle.std.proofs.Common.{rules}
use Rattle.freelist.proofs.local.Local.finish.Goals as goal

pub returns : goal.returns
returns g c = search rules
