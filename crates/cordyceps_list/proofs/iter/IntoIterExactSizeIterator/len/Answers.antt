use Rattle.std.proofs.Common.{rules}
use Rattle.cordyceps_list.proofs.iter.IntoIterExactSizeIterator.len.Goals as goal

pub returns-clause-value : goal.returns-clause-value
returns-clause-value g c = search rules
