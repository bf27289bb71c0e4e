use Rattle.std.proofs.Common.{rules}
use Rattle.cordyceps_list.proofs.list.List.drain_filter.Goals as goal

pub invariant_of-result : goal.invariant_of-result
invariant_of-result g c = search rules

pub returns-clause-place : goal.returns-clause-place
returns-clause-place g c = search rules
