use Rattle.std.proofs.Common.{rules}
use Rattle.cordyceps_single.proofs.iter.SortedListIterIterator.next.Goals as goal

pub returns : goal.returns
returns g c = search rules
