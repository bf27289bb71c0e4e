use Rattle.std.proofs.Common.{rules}
use Rattle.cordyceps_single.proofs.iter.SortedListIterClone.clone.Goals as goal

pub returns : goal.returns
returns g c = search rules
