use Rattle.std.proofs.Common.{refl, arith}
use Rattle.cordyceps.proofs.Orders.Keys.{arranged_ascends, ascends_arranged}
use Rattle.cordyceps.proofs.Spots.Holding.{taken_length}
use Rattle.cordyceps_uses.specs.Connections.{active}
use Rattle.cordyceps_uses.proofs.Idlest.{keeps}
use Rattle.cordyceps_uses.proofs.connections.Connections.close.Goals as goal

pub invariant_of-self : goal.invariant_of-self
invariant_of-self g c =
    let was = c.self.inside.list.nodes in let new = c.remove.new.self.nodes in
    let (rest, stands) = c.remove.ensures.arrangement _ was refl (ascends_arranged active was c.self.invariant.in_order) in
    keeps was new _ c.self.invariant (arranged_ascends active new rest stands.1) c.remove.ensures.distinct (omega (arith, taken_length was new c.args.spot c.remove.result c.remove.ensures.taken, c.self.invariant.fits))
