use Rattle.std.proofs.Common.{rules}
use Rattle.cordyceps_list.proofs.cursor_mut.CursorMut+T.split_before.Goals as goal

pub returns-clause-answer : goal.returns-clause-answer
returns-clause-answer g c = search rules

pub returns-clause-stands : goal.returns-clause-stands
returns-clause-stands g c = search rules
