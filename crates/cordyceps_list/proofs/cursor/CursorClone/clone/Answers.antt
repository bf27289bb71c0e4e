use Rattle.std.proofs.Common.{rules}
use Rattle.cordyceps_list.proofs.cursor.CursorClone.clone.Goals as goal

pub returns : goal.returns
returns g c = search rules
