use Rattle.std.proofs.Common.{◌∙◌, ap}
use Rattle.cordyceps_base.specs.Nodes.{entries}
use Rattle.cordyceps_tree.proofs.Walks.{from_first, first_spot_has}
use Rattle.cordyceps_tree.proofs.tree_map.TreeMap.iter.Goals as goal

pub from-requires : goal.from-requires
from-requires g c = first_spot_has c.self.inside.nodes c.first.result c.first.ensures

pub returns : goal.returns
returns g c = c.from.ensures ∙ from_first c.self.inside.nodes c.first.result c.spots_are_distinct.ensures c.first.ensures ∙ ap entries c.self.view_is
