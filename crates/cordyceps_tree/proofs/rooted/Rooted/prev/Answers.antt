use Rattle.std.proofs.Common.{◌≡◌, true, false, MatchOption, sym, subst}
use Rattle.cordyceps_base.specs.Boxes.{box_addresses}
use Rattle.cordyceps_base.specs.BySpot.{IsFirst, AreNext}
use Rattle.cordyceps_base.specs.Nodes.{Nodes}
use Rattle.cordyceps_tree.specs.Trees.{is_in}
use Rattle.cordyceps_tree.proofs.Placing.{spot_in}
use Rattle.cordyceps_tree.proofs.Saying.{neighbour_reaches, prev_said}
use Rattle.cordyceps_tree.proofs.rooted.Rooted.prev.Goals as goal

pub neighbour-requires-clause-there : goal.neighbour-requires-clause-there
neighbour-requires-clause-there g c =
    let ns = c.self.inside.row.boxes.blocks in
    subst (λ q. is_in q (box_addresses ns) ≡ true) (sym c.address_of.ensures) (spot_in ns c.args.self.now c.args.at c.self.view_is c.requires)

pub spot_unless_null-requires : goal.spot_unless_null-requires
spot_unless_null-requires g c = (neighbour_reaches false _ c.address_of.result.ptr c.neighbour.result.ptr c.self.invariant.tree.comparable c.neighbour.ensures).testable

pub returns : goal.returns
returns g c =
    subst (λ (n : Nodes g.row.T.Denot). MatchOption c.spot_unless_null.result (IsFirst n c.args.at) (λ z. AreNext n z c.args.at)) c.self.view_is
    (prev_said c.self.inside.row.boxes.blocks c.args.at c.address_of.result.ptr c.neighbour.result.ptr c.spot_unless_null.result c.address_of.ensures c.neighbour.ensures c.spot_unless_null.ensures)
