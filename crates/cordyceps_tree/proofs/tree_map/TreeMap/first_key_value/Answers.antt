use Rattle.std.proofs.Common.{subst}
use Rattle.cordyceps_base.specs.BySpot.{IsFirst}
use Rattle.cordyceps_base.specs.Nodes.{Nodes, spots}
use Rattle.cordyceps_base.specs.Spots.{AreDistinct}
use Rattle.cordyceps_stable.proofs.Reached.{first_has}
use Rattle.cordyceps_tree.proofs.Keys.{first_pair}
use Rattle.cordyceps_tree.proofs.tree_map.TreeMap.first_key_value.Goals as goal

pub key_value_at-requires : goal.key_value_at-requires
key_value_at-requires g c = first_has _ _ (subst (λ (n : Nodes (g.row.K.Denot × g.row.V.Denot)). IsFirst n c.in-Some.first) c.self.view_is c.in-Some.ensures)

pub returns-in-Some : goal.returns-in-Some
returns-in-Some g c =
    let view = c.self.view_is in let at = c.in-Some.first in let x : g.row.K.Denot × g.row.V.Denot = (c.key_value_at.result.0.now, c.key_value_at.result.1.now) in
    first_pair c.args.self.now at x (subst (λ (n : Nodes (g.row.K.Denot × g.row.V.Denot)). AreDistinct (spots n)) view c.spots_are_distinct.ensures) (subst (λ (n : Nodes (g.row.K.Denot × g.row.V.Denot)). IsFirst n at) view c.in-Some.ensures) c.key_value_at.ensures
