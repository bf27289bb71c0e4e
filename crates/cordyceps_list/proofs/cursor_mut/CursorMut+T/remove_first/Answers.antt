use Rattle.std.proofs.Common.{rules}
use Rattle.cordyceps_list.proofs.cursor_mut.CursorMut+T.remove_first.Goals as goal

pub returns-clause-removes : goal.returns-clause-removes
returns-clause-removes g c = search rules
