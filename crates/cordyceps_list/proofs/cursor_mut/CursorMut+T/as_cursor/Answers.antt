use Rattle.std.proofs.Common.{rules}
use Rattle.cordyceps_list.proofs.cursor_mut.CursorMut+T.as_cursor.Goals as goal

pub returns-clause-place : goal.returns-clause-place
returns-clause-place g c = search rules
