use Rattle.std.proofs.Common.{rules}
use Rattle.cordyceps_stable.proofs.Valid.{back_keeps, front_keeps, parts_apart}
use Rattle.cordyceps_stable.proofs.stable_list.StableList.append.Goals as goal

pub returns-clause-joined : goal.returns-clause-joined
returns-clause-joined g c = search rules

pub returns-clause-kept : goal.returns-clause-kept
returns-clause-kept g c = front_keeps _ _ _ (returns-clause-joined g c)

pub returns-clause-taken_over : goal.returns-clause-taken_over
returns-clause-taken_over g c = back_keeps _ _ _ (returns-clause-joined g c)

pub returns-clause-apart : goal.returns-clause-apart
returns-clause-apart g c = parts_apart _ _ _ (returns-clause-joined g c) (search rules)
