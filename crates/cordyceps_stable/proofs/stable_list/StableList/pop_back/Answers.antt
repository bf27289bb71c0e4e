use Rattle.std.proofs.Common.{rules}
use Rattle.cordyceps_stable.proofs.Valid.{last_out_keeps}
use Rattle.cordyceps_stable.proofs.stable_list.StableList.pop_back.Goals as goal

pub returns-clause-taken : goal.returns-clause-taken
returns-clause-taken g c = search rules

pub returns-clause-kept : goal.returns-clause-kept
returns-clause-kept g c = let (p, is) = returns-clause-taken g c in last_out_keeps _ _ p _ is
