use Rattle.std.proofs.Common.{sym, ap, ◌∙◌, subst}
use Rattle.std.specs.Ordering.{is_eq}
use Rattle.cordyceps_base.specs.BySpot.{HasSpot, HoldsAt}
use Rattle.cordyceps_base.specs.Nodes.{Nodes, spots}
use Rattle.cordyceps_base.specs.Spots.{AreDistinct}
use Rattle.cordyceps_tree.specs.TreeMaps.{Rises}
use Rattle.cordyceps_tree.proofs.Keys.{bound_found, bound_missed}
use Rattle.cordyceps_tree.proofs.tree_map.TreeMap.found.Goals as goal

pub get-requires : goal.get-requires
get-requires g c = subst (λ (n : Nodes (g.row.K.Denot × g.row.V.Denot)). HasSpot n c.args.at) (sym c.self.view_is) c.requires.there

pub returns-then-is_equal-clause-found : goal.returns-then-is_equal-clause-found
returns-then-is_equal-clause-found g c =
    let view = c.self.view_is in let v = c.args.self.now in
    bound_found g.K.Ord.cmp g.met.K.Ord.total v c.args.key.now (subst (Rises g.K.Ord.cmp) view c.self.invariant) c.args.at c.get.result.now
    (subst (λ (n : Nodes (g.row.K.Denot × g.row.V.Denot)). AreDistinct (spots n)) view c.spots_are_distinct.ensures) (subst (λ (n : Nodes (g.row.K.Denot × g.row.V.Denot)). HoldsAt n c.args.at c.get.result.now) view c.get.ensures) c.requires.bound (ap is_eq (sym c.cmp.ensures) ∙ sym c.is_eq-is_equal.ensures ∙ c.if-is_equal.true)

pub returns-else-is_equal-clause-found : goal.returns-else-is_equal-clause-found
returns-else-is_equal-clause-found g c =
    let view = c.self.view_is in let v = c.args.self.now in
    bound_missed g.K.Ord.cmp g.met.K.Ord.total v c.args.key.now (subst (Rises g.K.Ord.cmp) view c.self.invariant) c.args.at c.get.result.now
    (subst (λ (n : Nodes (g.row.K.Denot × g.row.V.Denot)). AreDistinct (spots n)) view c.spots_are_distinct.ensures) (subst (λ (n : Nodes (g.row.K.Denot × g.row.V.Denot)). HoldsAt n c.args.at c.get.result.now) view c.get.ensures) c.requires.bound (ap is_eq (sym c.cmp.ensures) ∙ sym c.is_eq-is_equal.ensures ∙ c.if-is_equal.false)
