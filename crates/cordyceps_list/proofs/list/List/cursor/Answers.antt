use Rattle.std.proofs.Common.{rules}
use Rattle.cordyceps_list.proofs.list.List.cursor.Goals as goal

pub returns : goal.returns
returns g c = search rules
