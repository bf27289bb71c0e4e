use Rattle.std.proofs.Common.{Some, ap, sym, ◌∙◌, subst}
use Rattle.std.specs.Ordering.{is_eq}
use Rattle.cordyceps_base.specs.Nodes.{Nodes, spots}
use Rattle.cordyceps_base.specs.Spots.{AreDistinct}
use Rattle.cordyceps_stable.specs.Arranged.{Sorted}
use Rattle.cordyceps_tree.proofs.Bounds.{found_here, none_found}
use Rattle.cordyceps_tree.proofs.stable_tree.StableTree.found.Goals as goal

pub returns-then-is_equal-clause-found : goal.returns-then-is_equal-clause-found
returns-then-is_equal-clause-found g c = λ cmp a asked h u.
    let view = ap (λ (s : Sorted g.row.T.Denot g.row.O.Denot). s.nodes) c.self.view_is in let nodes = c.args.self.now.nodes in let v = c.args.value.now in let w = c.get.result.now in
    let by = subst (λ o. g.O.Order.compares_by o cmp) (ap (λ (s : Sorted g.row.T.Denot g.row.O.Denot). s.order) (sym c.self.view_is)) asked in
    let distinct = subst (λ (n : Nodes g.row.T.Denot). AreDistinct (spots n)) view c.spots_are_distinct.ensures in
    let holds = c.get.ensures in
    found_here (g.O.Order.compares_by c.self.inside.order) cmp by (g.met.O.Order.lawful c.self.inside.order cmp by) v nodes (Some c.args.at) h.in_order c.args.at w distinct holds (sym (ap is_eq (c.compare.ensures cmp by)) ∙ sym c.is_eq-is_equal.ensures ∙ c.if-is_equal.true) u

pub returns-else-is_equal-clause-found : goal.returns-else-is_equal-clause-found
returns-else-is_equal-clause-found g c = λ cmp a asked h u.
    let view = ap (λ (s : Sorted g.row.T.Denot g.row.O.Denot). s.nodes) c.self.view_is in let nodes = c.args.self.now.nodes in let v = c.args.value.now in let w = c.get.result.now in
    let by = subst (λ o. g.O.Order.compares_by o cmp) (ap (λ (s : Sorted g.row.T.Denot g.row.O.Denot). s.order) (sym c.self.view_is)) asked in
    let distinct = subst (λ (n : Nodes g.row.T.Denot). AreDistinct (spots n)) view c.spots_are_distinct.ensures in
    let holds = c.get.ensures in
    none_found (g.O.Order.compares_by c.self.inside.order) cmp by (g.met.O.Order.lawful c.self.inside.order cmp by) v nodes (Some c.args.at) h.in_order c.args.at w distinct holds (sym (ap is_eq (c.compare.ensures cmp by)) ∙ sym c.is_eq-is_equal.ensures ∙ c.if-is_equal.false) u
