use Rattle.std.proofs.Common.{◌≡◌, None, [], MatchOption, ap, subst}
use Rattle.cordyceps_base.specs.BySpot.{IsLast}
use Rattle.cordyceps_base.specs.Nodes.{Nodes}
use Rattle.cordyceps_stable.specs.Arranged.{Sorted}
use Rattle.cordyceps_stable.proofs.Reached.{back_has}
use Rattle.cordyceps_tree.proofs.stable_tree.StableTree.last.Goals as goal

pub returns-clause-last : goal.returns-clause-last
returns-clause-last g c = subst (λ (n : Nodes g.row.T.Denot). MatchOption c.last.result (n ≡ []) (IsLast n)) (ap (λ (s : Sorted g.row.T.Denot g.row.O.Denot). s.nodes) c.self.view_is) c.last.ensures

pub returns-clause-there : goal.returns-clause-there
returns-clause-there g c = back_has _ None _ (returns-clause-last g c)
