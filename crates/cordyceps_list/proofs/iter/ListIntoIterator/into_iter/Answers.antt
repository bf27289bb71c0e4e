use Rattle.std.proofs.Common.{rules}
use Rattle.cordyceps_list.proofs.iter.ListIntoIterator.into_iter.Goals as goal

pub returns : goal.returns
returns g c = search rules
