use Rattle.std.proofs.Common.{rules}
use Rattle.freelist.proofs.local.Local.put.Goals as goal

pub returns : goal.returns
returns g c = search rules
