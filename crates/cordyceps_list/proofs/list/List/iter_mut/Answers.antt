use Rattle.std.proofs.Common.{rules}
use Rattle.cordyceps_list.proofs.list.List.iter_mut.Goals as goal

pub returns-clause-from : goal.returns-clause-from
returns-clause-from g c = search rules
