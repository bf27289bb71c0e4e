use Rattle.std.proofs.Common.{MatchOption, ap, subst}
use Rattle.cordyceps_base.specs.BySpot.{IsFirst, AreNext}
use Rattle.cordyceps_base.specs.Nodes.{Nodes, spots}
use Rattle.cordyceps_base.specs.Spots.{AreDistinct}
use Rattle.cordyceps_stable.specs.Arranged.{Sorted}
use Rattle.cordyceps_stable.proofs.Reached.{prev_spot}
use Rattle.cordyceps_stable.proofs.Valid.{prev_apart}
use Rattle.cordyceps_tree.proofs.stable_tree.StableTree.prev.Goals as goal

pub returns-clause-step : goal.returns-clause-step
returns-clause-step g c = subst (λ (n : Nodes g.row.T.Denot). MatchOption c.prev.result (IsFirst n c.args.at) (λ z. AreNext n z c.args.at)) (ap (λ (s : Sorted g.row.T.Denot g.row.O.Denot). s.nodes) c.self.view_is) c.prev.ensures

pub returns-clause-there : goal.returns-clause-there
returns-clause-there g c = prev_spot _ _ _ (returns-clause-step g c)

pub returns-clause-apart : goal.returns-clause-apart
returns-clause-apart g c = prev_apart _ _ _ (subst (λ (n : Nodes g.row.T.Denot). AreDistinct (spots n)) (ap (λ (s : Sorted g.row.T.Denot g.row.O.Denot). s.nodes) c.self.view_is) c.spots_are_distinct.ensures) (returns-clause-step g c)
