use Rattle.std.proofs.Common.{length, ap, arith}
use Rattle.cordyceps_uses.specs.Keyed.{order}
use Rattle.cordyceps_uses.proofs.Ordered.{moved_long}
use Rattle.cordyceps_uses.proofs.recency.Cache.touch.Goals as goal

pub invariant_of-self : goal.invariant_of-self
invariant_of-self g c =
    let a = c.in-Some.ensures.found in let long = ap length c.move_back.ensures.moved in let fits = c.self.invariant.fits in
    let same = moved_long (g.K.PartialEq.eq c.args.key.now) (order 0 c.self.inside.map) a.entry a.found in
    record { some = c.self.invariant.some; fits = omega (arith, long, same, fits) }
