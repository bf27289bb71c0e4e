use Rattle.std.proofs.Common.{rules}
use Rattle.cordyceps_list.proofs.cursor.CursorIterator.size_hint.Goals as goal

pub returns-clause-exact : goal.returns-clause-exact
returns-clause-exact g c = search rules
