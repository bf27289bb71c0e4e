use Rattle.std.proofs.Common.{◌∙◌, ap, sym, subst}
use Rattle.cordyceps_base.specs.Nodes.{spots}
use Rattle.cordyceps_base.specs.Spots.{AreDistinct}
use Rattle.cordyceps_tree.proofs.Placing.{spots_of}
use Rattle.cordyceps_tree.proofs.rooted.Rooted.spots_are_distinct.Goals as goal

pub returns : goal.returns
returns g c = subst AreDistinct (sym (spots_of c.self.inside.row.boxes.blocks) ∙ ap spots c.self.view_is) c.self.invariant.tree.distinct
