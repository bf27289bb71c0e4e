use Rattle.std.proofs.Common.{◌∙◌}
use Rattle.cordyceps_tree.proofs.Keys.{found_some}
use Rattle.cordyceps_tree.proofs.tree_map.TreeMap.contains_key.Goals as goal

pub returns : goal.returns
returns g c = c.is_some.ensures ∙ found_some g.K.Ord.cmp g.met.K.Ord.total c.args.self.now c.args.key.now c.find.result c.find.ensures.found
