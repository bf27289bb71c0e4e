use Rattle.std.proofs.Common.{◌≡◌, Bool, ◌∙◌}
use Rattle.std.specs.Ordering.{is_gt}
use Rattle.cordyceps_tree.proofs.Bounds.{bound_has}
use Rattle.cordyceps_tree.proofs.Ranges.{ranged}
use Rattle.cordyceps_tree.proofs.tree_map.TreeMap.range.Goals as goal

pub from-requires : goal.from-requires
from-requires g c =
    let says : g.row.K.Denot × g.row.V.Denot → Bool → Type 0 = λ x b. b ≡ is_gt (g.K.Ord.cmp c.args.low.now x.0) in
    bound_has says c.self.inside.nodes c.bound-at.result c.bound-at.ensures

pub returns : goal.returns
returns g c =
    c.from.ensures ∙ ranged g.K.Ord.cmp g.met.K.Ord.total c.self.inside.nodes c.args.self.now c.args.low.now c.args.high.now c.bound-at.result c.self.view_is c.self.invariant c.spots_are_distinct.ensures c.bound-at.ensures
