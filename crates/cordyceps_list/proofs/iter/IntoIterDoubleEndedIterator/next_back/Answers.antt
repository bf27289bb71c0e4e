use Rattle.std.proofs.Common.{rules}
use Rattle.cordyceps_list.proofs.iter.IntoIterDoubleEndedIterator.next_back.Goals as goal

pub returns-clause-steps : goal.returns-clause-steps
returns-clause-steps g c = search rules
