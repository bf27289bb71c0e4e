use Rattle.std.proofs.Common.{◌≡◌, [], MatchOption, subst}
use Rattle.cordyceps_base.specs.BySpot.{IsFirst}
use Rattle.cordyceps_base.specs.Nodes.{Nodes}
use Rattle.cordyceps_tree.proofs.Saying.{first_reaches, first_said}
use Rattle.cordyceps_tree.proofs.rooted.Rooted.first.Goals as goal

pub spot_unless_null-requires : goal.spot_unless_null-requires
spot_unless_null-requires g c = (first_reaches _ c.self.inside.first.ptr c.self.invariant.front c.self.invariant.tree.comparable).testable

pub returns : goal.returns
returns g c =
    subst (λ (n : Nodes g.row.T.Denot). MatchOption c.spot_unless_null.result (n ≡ []) (IsFirst n)) c.self.view_is
    (first_said c.self.inside.row.boxes.blocks c.self.inside.first.ptr c.spot_unless_null.result c.self.invariant.front c.self.invariant.tree.comparable c.spot_unless_null.ensures)
