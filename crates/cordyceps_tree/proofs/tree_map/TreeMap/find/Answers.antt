use Rattle.std.proofs.Common.{◌≡◌, Bool, Some, None, subst}
use Rattle.std.specs.Ordering.{is_gt}
use Rattle.cordyceps_base.specs.BySpot.{HasSpot}
use Rattle.cordyceps_base.specs.Nodes.{Nodes}
use Rattle.cordyceps_tree.specs.Bounds.{IsBoundWhere}
use Rattle.cordyceps_tree.specs.TreeMaps.{Rises}
use Rattle.cordyceps_tree.proofs.Bounds.{bound_has}
use Rattle.cordyceps_tree.proofs.Keys.{bound_none}
use Rattle.cordyceps_tree.proofs.tree_map.TreeMap.find.Goals as goal

pub found-requires-clause-there : goal.found-requires-clause-there
found-requires-clause-there g c =
    let says : g.row.K.Denot × g.row.V.Denot → Bool → Type 0 = λ x b. b ≡ is_gt (g.K.Ord.cmp c.args.key.now x.0) in
    subst (λ (n : Nodes (g.row.K.Denot × g.row.V.Denot)). HasSpot n c.in-Some.at) c.self.view_is (bound_has says c.self.inside.nodes (Some c.in-Some.at) c.in-Some.ensures)

pub found-requires-clause-bound : goal.found-requires-clause-bound
found-requires-clause-bound g c =
    let says : g.row.K.Denot × g.row.V.Denot → Bool → Type 0 = λ x b. b ≡ is_gt (g.K.Ord.cmp c.args.key.now x.0) in
    subst (λ (n : Nodes (g.row.K.Denot × g.row.V.Denot)). IsBoundWhere says n (Some c.in-Some.at)) c.self.view_is c.in-Some.ensures

pub returns-in-None-clause-found : goal.returns-in-None-clause-found
returns-in-None-clause-found g c =
    let says : g.row.K.Denot × g.row.V.Denot → Bool → Type 0 = λ x b. b ≡ is_gt (g.K.Ord.cmp c.args.key.now x.0) in
    let view = c.self.view_is in
    bound_none g.K.Ord.cmp g.met.K.Ord.total c.args.self.now c.args.key.now (subst (Rises g.K.Ord.cmp) view c.self.invariant) (subst (λ (n : Nodes (g.row.K.Denot × g.row.V.Denot)). IsBoundWhere says n None) view c.in-None.ensures)
