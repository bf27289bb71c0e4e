use Rattle.std.proofs.Common.{rules}
use Rattle.cordyceps_stable.proofs.Holding.{first_taken}
use Rattle.cordyceps_stable.proofs.Reached.{taken_has}
use Rattle.cordyceps_stable.proofs.Valid.{put_apart, put_keeps}
use Rattle.cordyceps_stable.proofs.stable_list.StableList.push_front.Goals as goal

pub returns-clause-holds : goal.returns-clause-holds
returns-clause-holds g c = search rules

pub returns-clause-there : goal.returns-clause-there
returns-clause-there g c = taken_has _ _ _ _ (first_taken _ _ _ _ (returns-clause-holds g c))

pub returns-clause-kept : goal.returns-clause-kept
returns-clause-kept g c = put_keeps _ _ _ _ (first_taken _ _ _ _ (returns-clause-holds g c))

pub returns-clause-apart : goal.returns-clause-apart
returns-clause-apart g c = put_apart _ _ _ _ c.link_front-address.ensures.distinct (first_taken _ _ _ _ (returns-clause-holds g c))
