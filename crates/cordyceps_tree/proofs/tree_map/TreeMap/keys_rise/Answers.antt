use Rattle.std.proofs.Common.{subst}
use Rattle.cordyceps_base.specs.Nodes.{Nodes, spots}
use Rattle.cordyceps_base.specs.Spots.{AreDistinct}
use Rattle.cordyceps_tree.proofs.tree_map.TreeMap.keys_rise.Goals as goal

pub returns-clause-distinct : goal.returns-clause-distinct
returns-clause-distinct g c = subst (λ (n : Nodes (g.row.K.Denot × g.row.V.Denot)). AreDistinct (spots n)) c.self.view_is c.spots_are_distinct.ensures
