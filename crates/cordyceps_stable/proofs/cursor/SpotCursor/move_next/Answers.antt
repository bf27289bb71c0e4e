use Rattle.std.proofs.Common.{rules}
use Rattle.cordyceps_stable.proofs.cursor.SpotCursor.move_next.Goals as goal

pub returns-clause-moved : goal.returns-clause-moved
returns-clause-moved g c = search rules
