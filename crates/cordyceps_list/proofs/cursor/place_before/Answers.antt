use Rattle.std.proofs.Common.{rules}
use Rattle.cordyceps_list.proofs.cursor.place_before.Goals as goal

pub returns-else-index-gt0-clause-value : goal.returns-else-index-gt0-clause-value
returns-else-index-gt0-clause-value c = search rules
