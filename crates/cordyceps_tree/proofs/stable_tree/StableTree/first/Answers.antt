use Rattle.std.proofs.Common.{◌≡◌, None, [], MatchOption, ap, subst}
use Rattle.cordyceps_base.specs.BySpot.{IsFirst}
use Rattle.cordyceps_base.specs.Nodes.{Nodes}
use Rattle.cordyceps_stable.specs.Arranged.{Sorted}
use Rattle.cordyceps_stable.proofs.Reached.{on_has}
use Rattle.cordyceps_tree.proofs.stable_tree.StableTree.first.Goals as goal

pub returns-clause-first : goal.returns-clause-first
returns-clause-first g c = subst (λ (n : Nodes g.row.T.Denot). MatchOption c.first.result (n ≡ []) (IsFirst n)) (ap (λ (s : Sorted g.row.T.Denot g.row.O.Denot). s.nodes) c.self.view_is) c.first.ensures

pub returns-clause-there : goal.returns-clause-there
returns-clause-there g c = on_has _ None _ (returns-clause-first g c)
