use Rattle.std.proofs.Common.{subst}
use Rattle.cordyceps_base.specs.BySpot.{IsLast}
use Rattle.cordyceps_base.specs.Nodes.{Nodes, spots}
use Rattle.cordyceps_base.specs.Spots.{AreDistinct}
use Rattle.cordyceps_stable.proofs.Reached.{last_has}
use Rattle.cordyceps_stable.proofs.Valid.{last_out_keeps}
use Rattle.cordyceps_tree.proofs.Changing.{last_taken}
use Rattle.cordyceps_tree.proofs.tree_map.TreeMap.pop_last.Goals as goal

pub remove_at-requires : goal.remove_at-requires
remove_at-requires g c = last_has _ _ (subst (λ (n : Nodes (g.row.K.Denot × g.row.V.Denot)). IsLast n c.in-Some.last) c.self.view_is c.in-Some.ensures)

pub returns-in-Some-clause-taken : goal.returns-in-Some-clause-taken
returns-in-Some-clause-taken g c =
    let view = c.self.view_is in
    (c.in-Some.last, last_taken c.args.self.now c.remove_at.new.self c.in-Some.last c.remove_at.result (subst (λ (n : Nodes (g.row.K.Denot × g.row.V.Denot)). AreDistinct (spots n)) view c.spots_are_distinct.ensures) (subst (λ (n : Nodes (g.row.K.Denot × g.row.V.Denot)). IsLast n c.in-Some.last) view c.in-Some.ensures) c.remove_at.ensures.taken)

pub returns-in-Some-clause-kept : goal.returns-in-Some-clause-kept
returns-in-Some-clause-kept g c = let (p, is) = returns-in-Some-clause-taken g c in last_out_keeps _ _ p _ is
