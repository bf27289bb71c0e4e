use Rattle.std.proofs.Common.{ap, sym, subst}
use Rattle.cordyceps_base.specs.Nodes.{Nodes}
use Rattle.cordyceps_stable.specs.Arranged.{Sorted}
use Rattle.cordyceps_tree.specs.Bounds.{IsBoundWhere, SaysBeforeEquals}
use Rattle.cordyceps_tree.proofs.Bounds.{bound_has, lower_parts}
use Rattle.cordyceps_tree.proofs.stable_tree.StableTree.lower_bound.Goals as goal

pub returns-clause-bound : goal.returns-clause-bound
returns-clause-bound g c = λ cmp a asked h.
    let view = ap (λ (s : Sorted g.row.T.Denot g.row.O.Denot). s.nodes) c.self.view_is in let v = c.args.value.now in
    let by = subst (λ o. g.O.Order.compares_by o cmp) (ap (λ (s : Sorted g.row.T.Denot g.row.O.Denot). s.order) (sym c.self.view_is)) asked in
    let asks = g.O.Order.compares_by c.self.inside.order in
    lower_parts asks cmp by (g.met.O.Order.lawful c.self.inside.order cmp by) v c.args.self.now.nodes c.bound.result h.in_order (subst (λ (n : Nodes g.row.T.Denot). IsBoundWhere (SaysBeforeEquals asks v) n c.bound.result) view c.bound.ensures)

pub returns-clause-there : goal.returns-clause-there
returns-clause-there g c =
    let view = ap (λ (s : Sorted g.row.T.Denot g.row.O.Denot). s.nodes) c.self.view_is in let says = SaysBeforeEquals (g.O.Order.compares_by c.self.inside.order) c.args.value.now in
    bound_has says c.args.self.now.nodes c.bound.result (subst (λ (n : Nodes g.row.T.Denot). IsBoundWhere says n c.bound.result) view c.bound.ensures)
