use Rattle.std.proofs.Common.{rules}
use Rattle.cordyceps_stable.proofs.Valid.{taken_keeps}
use Rattle.cordyceps_stable.proofs.stable_list.StableList.remove.Goals as goal

pub returns-clause-taken : goal.returns-clause-taken
returns-clause-taken g c = search rules

pub returns-clause-kept : goal.returns-clause-kept
returns-clause-kept g c = taken_keeps _ _ _ _ (returns-clause-taken g c)
