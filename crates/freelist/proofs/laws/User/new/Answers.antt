use Rattle.std.proofs.Common.{rules}
use Rattle.freelist.proofs.laws.User.new.Goals as goal

pub returns : goal.returns
returns g c = search rules
