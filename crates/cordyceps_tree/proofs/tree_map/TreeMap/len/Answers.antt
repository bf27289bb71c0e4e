use Rattle.std.proofs.Common.{length, ap, ◌∙◌}
use Rattle.cordyceps_tree.proofs.tree_map.TreeMap.len.Goals as goal

pub returns : goal.returns
returns g c = c.len.ensures ∙ ap length c.self.view_is
