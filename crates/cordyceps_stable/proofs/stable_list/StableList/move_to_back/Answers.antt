use Rattle.cordyceps_base.specs.BySpot.{IsMovedBack}
use Rattle.cordyceps_stable.proofs.Spots.{move_said}
use Rattle.cordyceps_stable.proofs.Valid.{moved_back_keeps}
use Rattle.cordyceps_stable.proofs.Reached.{moved_back_has}
use Rattle.cordyceps_stable.proofs.stable_list.StableList.move_to_back.Goals as goal

pub returns-clause-moved : goal.returns-clause-moved
returns-clause-moved g c = let X = g.row.T.Denot in search (move_said {X = X} IsMovedBack)

pub returns-clause-kept : goal.returns-clause-kept
returns-clause-kept g c = moved_back_keeps _ _ _ (returns-clause-moved g c)

pub returns-clause-there : goal.returns-clause-there
returns-clause-there g c = moved_back_has _ _ _ (returns-clause-moved g c)
