use Rattle.std.proofs.Common.{rules}
use Rattle.cordyceps_stable.proofs.cursor.SpotCursor.spot.Goals as goal

pub returns-clause-spot : goal.returns-clause-spot
returns-clause-spot g c = search rules
