use Rattle.std.proofs.Common.{None, rules}
use Rattle.cordyceps_stable.proofs.Reached.{back_has}
use Rattle.cordyceps_stable.proofs.stable_list.StableList.back.Goals as goal

pub returns-clause-last : goal.returns-clause-last
returns-clause-last g c = search rules

pub returns-clause-there : goal.returns-clause-there
returns-clause-there g c = back_has _ None _ (returns-clause-last g c)
