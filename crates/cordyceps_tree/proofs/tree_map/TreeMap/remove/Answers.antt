use Rattle.std.proofs.Common.{subst}
use Rattle.cordyceps_base.specs.Nodes.{Nodes, spots}
use Rattle.cordyceps_base.specs.Spots.{AreDistinct}
use Rattle.cordyceps_tree.specs.TreeMaps.{Rises}
use Rattle.cordyceps_tree.proofs.Keys.{found_gone, removed_keeps}
use Rattle.cordyceps_tree.proofs.tree_map.TreeMap.remove.Goals as goal

pub returns-in-Some-clause-gone : goal.returns-in-Some-clause-gone
returns-in-Some-clause-gone g c =
    let view = c.self.view_is in
    found_gone g.K.Ord.cmp g.met.K.Ord.total c.args.self.now c.remove_at.new.self c.args.key.now c.in-Some.spot c.remove_at.result (subst (Rises g.K.Ord.cmp) view c.self.invariant) (subst (λ (n : Nodes (g.row.K.Denot × g.row.V.Denot)). AreDistinct (spots n)) view c.spots_are_distinct.ensures) c.in-Some.ensures.found c.remove_at.ensures.taken

pub returns-in-Some-clause-kept : goal.returns-in-Some-clause-kept
returns-in-Some-clause-kept g c =
    removed_keeps g.K.Ord.cmp g.met.K.Ord.total c.args.self.now c.remove_at.new.self c.args.key.now c.remove_at.result (record { spot = c.in-Some.spot; found = c.in-Some.ensures.found; taken = c.remove_at.ensures.taken })

pub returns-in-None-clause-distinct : goal.returns-in-None-clause-distinct
returns-in-None-clause-distinct g c = subst (λ (n : Nodes (g.row.K.Denot × g.row.V.Denot)). AreDistinct (spots n)) c.self.view_is c.spots_are_distinct.ensures
