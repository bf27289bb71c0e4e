use Rattle.std.proofs.Common.{rules}
use Rattle.cordyceps_list.proofs.cursor_mut.CursorMut+T.peek_prev.Goals as goal

pub returns : goal.returns
returns g c = search rules
