use Rattle.std.proofs.Common.{rules}
use Rattle.cordyceps_list.proofs.list.List.split_off.Goals as goal

pub returns-clause-kept : goal.returns-clause-kept
returns-clause-kept g c = search rules

pub returns-clause-split : goal.returns-clause-split
returns-clause-split g c = search rules
