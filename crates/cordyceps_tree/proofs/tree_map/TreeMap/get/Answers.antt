use Rattle.std.proofs.Common.{Some, sym, ap, ◌∙◌, subst}
use Rattle.cordyceps_base.specs.Nodes.{Nodes, spots}
use Rattle.cordyceps_base.specs.BySpot.{HoldsAt}
use Rattle.cordyceps_base.specs.Spots.{AreDistinct}
use Rattle.cordyceps_tree.specs.TreeMaps.{Rises}
use Rattle.cordyceps_tree.proofs.Keys.{found_value, found_held}
use Rattle.cordyceps_tree.proofs.tree_map.TreeMap.get.Goals as goal

pub returns-in-Some : goal.returns-in-Some
returns-in-Some g c =
    let cmp = g.K.Ord.cmp in let t = g.met.K.Ord.total in let view = c.self.view_is in let v = c.args.self.now in let at = c.in-Some.at in let f = c.in-Some.ensures.found in
    let r = subst (Rises cmp) view c.self.invariant in let x = c.get.result.now in
    let d = subst (λ (n : Nodes (g.row.K.Denot × g.row.V.Denot)). AreDistinct (spots n)) view c.spots_are_distinct.ensures in
    let held = subst (λ (n : Nodes (g.row.K.Denot × g.row.V.Denot)). HoldsAt n at x) view c.get.ensures in
    sym (found_value cmp t v c.args.key.now at r f ∙ ap (λ (z : g.row.K.Denot × g.row.V.Denot). Some z.1) (found_held cmp t v c.args.key.now at r f d x held))
