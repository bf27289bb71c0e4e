use Rattle.std.proofs.Common.{rules}
use Rattle.cordyceps_list.proofs.cursor_mut.CursorMut+T.split_after.Goals as goal

pub returns-then-place-len-clause-inside : goal.returns-then-place-len-clause-inside
returns-then-place-len-clause-inside g c = search rules

pub returns-then-place-len-clause-inside_stands : goal.returns-then-place-len-clause-inside_stands
returns-then-place-len-clause-inside_stands g c = search rules
