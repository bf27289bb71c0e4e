use Rattle.std.proofs.Common.{arith}
use Rattle.cordyceps_uses.specs.Expiring.{by_use}
use Rattle.cordyceps_uses.proofs.Ordered.{shrunk}
use Rattle.cordyceps_uses.proofs.expiring.ExpiringCache.remove_expired.Goals as goal

pub invariant_of-self : goal.invariant_of-self
invariant_of-self g c =
    let less = shrunk g.K.PartialEq.eq (by_use c.self.inside.map) c.taken.result (by_use c.taken.new.map) c.taken.ensures.out in let fits = c.self.invariant.fits in
    record { some = c.self.invariant.some; fits = omega (arith, less, fits); timed = c.taken.ensures.timed }
