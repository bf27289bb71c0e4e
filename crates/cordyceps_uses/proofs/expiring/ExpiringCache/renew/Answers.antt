use Rattle.std.proofs.Common.{[], ◌∷◌, length, length-append, ap, arith}
use Rattle.std.specs.Map.{remove_entry}
use Rattle.cordyceps_uses.specs.Expiring.{by_use, with_until}
use Rattle.cordyceps_uses.proofs.Ordered.{shorter}
use Rattle.cordyceps_uses.proofs.expiring.ExpiringCache.renew.Goals as goal

pub invariant_of-self : goal.invariant_of-self
invariant_of-self g c =
    let test = g.K.PartialEq.eq c.args.key.now in let s = by_use c.self.inside.map in let a = c.in-Some.ensures.found in let r = c.set_until.ensures.renewed in
    let long = ap length r.holds in let parts = length-append (remove_entry test s) (with_until c.args.until r.entry ∷ []) in
    let less = shorter test s a.entry a.found in let fits = c.self.invariant.fits in
    record { some = c.self.invariant.some; fits = omega (arith, long, parts, less, fits); timed = c.set_until.ensures.timed }
