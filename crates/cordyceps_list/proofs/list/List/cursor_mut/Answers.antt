use Rattle.std.proofs.Common.{rules}
use Rattle.cordyceps_list.proofs.list.List.cursor_mut.Goals as goal

pub returns-clause-place : goal.returns-clause-place
returns-clause-place g c = search rules
