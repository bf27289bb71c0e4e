use Rattle.std.proofs.Common.{◌<◌, length, refl, ap, sym, ◌∙◌, subst, arith}
use Rattle.cordyceps.specs.Spots.BySpot.{IsTaken}
use Rattle.cordyceps.proofs.Orders.Keys.{arranged_ascends, ascends_arranged}
use Rattle.cordyceps.proofs.Spots.Holding.{taken_length}
use Rattle.cordyceps_uses.specs.Connections.{active, OpenConnections}
use Rattle.cordyceps_uses.proofs.Idlest.{keeps}
use Rattle.cordyceps_uses.proofs.connections.Connections.open.Goals as goal

pub invariant_of-self : goal.invariant_of-self
invariant_of-self g c =
    let was = c.self.inside.list.nodes in let new = c.insert-spot.new.self.nodes in
    let room = subst (λ (t : OpenConnections _). length t.nodes < t.capacity) (sym c.self.view_is) c.make_room-evicted.ensures.room in
    let placed = c.insert-spot.ensures.arrangement _ was refl (ascends_arranged active was c.self.invariant.in_order) in
    keeps was new _ c.self.invariant (arranged_ascends active new _ placed) c.insert-spot.ensures.distinct (omega (arith, taken_length new was c.insert-spot.result c.args.node c.insert-spot.ensures.others, room))

pub returns-clause-opened : goal.returns-clause-opened
returns-clause-opened g c = record {
  left = c.make_room-evicted.new.self.nodes;
  evicted = c.make_room-evicted.ensures.evicted;
  opened = subst (λ (t : OpenConnections _). IsTaken c.insert-spot.new.self.nodes c.insert-spot.result c.args.node t.nodes) c.self.view_is c.insert-spot.ensures.others;
  capacity = ap (λ (t : OpenConnections _). t.capacity) c.self.view_is ∙ c.make_room-evicted.ensures.capacity;
}
