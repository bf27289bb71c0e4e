use Rattle.std.proofs.Common.{rules}
use Rattle.cordyceps_list.proofs.iter_mut.IterMut.drop.Goals as goal

pub returns : goal.returns
returns g c = search rules
