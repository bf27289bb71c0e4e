use Rattle.std.proofs.Common.{rules}
use Rattle.cordyceps_list.proofs.cursor_mut.CursorMut+T.insert_after.Goals as goal

pub returns-then-place-len-clause-inside : goal.returns-then-place-len-clause-inside
returns-then-place-len-clause-inside g c = search rules
