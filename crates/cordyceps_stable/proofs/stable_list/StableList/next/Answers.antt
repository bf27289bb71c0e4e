use Rattle.std.proofs.Common.{subst}
use Rattle.cordyceps_base.specs.BySpot.{IsLast, AreNext}
use Rattle.cordyceps_base.specs.Nodes.{Nodes, spots}
use Rattle.cordyceps_base.specs.Spots.{AreDistinct}
use Rattle.cordyceps_stable.proofs.Spots.{step_said}
use Rattle.cordyceps_stable.proofs.Reached.{next_spot}
use Rattle.cordyceps_stable.proofs.Valid.{next_apart}
use Rattle.cordyceps_stable.proofs.stable_list.StableList.next.Goals as goal

pub returns-clause-step : goal.returns-clause-step
returns-clause-step g c = let X = g.row.T.Denot in search (step_said {X = X} IsLast AreNext c.next_at.result c.spot_of.result c.spot_of.ensures)

pub returns-clause-there : goal.returns-clause-there
returns-clause-there g c = next_spot _ _ _ (returns-clause-step g c)

pub returns-clause-apart : goal.returns-clause-apart
returns-clause-apart g c =
    next_apart _ _ _ (subst (λ (s : Nodes g.row.T.Denot). AreDistinct (spots s)) c.self.view_is c.self.invariant) (returns-clause-step g c)
