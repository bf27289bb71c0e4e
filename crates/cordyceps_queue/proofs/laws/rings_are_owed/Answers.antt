use Rattle.cordyceps_queue.proofs.SharedTheory.SleeperLaw.{none_found_is_owed, blocker_is_owing}
use Rattle.cordyceps_queue.proofs.laws.rings_are_owed.Goals as goal

pub returns-clause-none : goal.returns-clause-none
returns-clause-none g c = none_found_is_owed _ _

pub returns-clause-blocked : goal.returns-clause-blocked
returns-clause-blocked g c = blocker_is_owing _ _
