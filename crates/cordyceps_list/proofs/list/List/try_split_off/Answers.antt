use Rattle.std.proofs.Common.{rules}
use Rattle.cordyceps_list.proofs.list.List.try_split_off.Goals as goal

pub returns-clause-variant : goal.returns-clause-variant
returns-clause-variant g c = search rules

pub returns-clause-some : goal.returns-clause-some
returns-clause-some g c = search rules
