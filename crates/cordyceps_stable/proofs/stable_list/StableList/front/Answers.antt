use Rattle.std.proofs.Common.{None, rules}
use Rattle.cordyceps_stable.proofs.Reached.{on_has}
use Rattle.cordyceps_stable.proofs.stable_list.StableList.front.Goals as goal

pub returns-clause-first : goal.returns-clause-first
returns-clause-first g c = search rules

pub returns-clause-there : goal.returns-clause-there
returns-clause-there g c = on_has _ None _ (returns-clause-first g c)
