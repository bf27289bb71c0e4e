use Rattle.std.proofs.Common.{rules}
use Rattle.cordyceps_stable.proofs.cursor.SpotCursorClone.clone.Goals as goal

pub returns : goal.returns
returns g c = search rules
