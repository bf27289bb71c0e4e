use Rattle.std.proofs.Common.{Bool, ap, subst}
use Rattle.std.specs.Fn.{FnReturnsAt}
use Rattle.cordyceps_base.specs.Nodes.{Nodes}
use Rattle.cordyceps_stable.specs.Arranged.{Sorted}
use Rattle.cordyceps_tree.specs.Bounds.{IsBoundWhere}
use Rattle.cordyceps_tree.proofs.Bounds.{bound_has, point_is}
use Rattle.cordyceps_tree.proofs.stable_tree.StableTree.partition_point.Goals as goal

pub returns-clause-bound : goal.returns-clause-bound
returns-clause-bound g c = λ passes front back f parts p q.
    let view = ap (λ (s : Sorted g.row.T.Denot g.row.O.Denot). s.nodes) c.self.view_is in
    point_is passes (λ x b. FnReturnsAt g.F.Fn c.args.test x b) (λ x b k. f x b k) c.self.inside.nodes c.args.self.now.nodes front back c.bound.result view c.bound.ensures parts p q

pub returns-clause-there : goal.returns-clause-there
returns-clause-there g c =
    let view = ap (λ (s : Sorted g.row.T.Denot g.row.O.Denot). s.nodes) c.self.view_is in let says : g.row.T.Denot → Bool → Type 0 = λ x b. FnReturnsAt g.F.Fn c.args.test x b in
    bound_has says c.args.self.now.nodes c.bound.result (subst (λ (n : Nodes g.row.T.Denot). IsBoundWhere says n c.bound.result) view c.bound.ensures)
