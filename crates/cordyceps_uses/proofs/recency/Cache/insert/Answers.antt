use Rattle.std.proofs.Common.{◌∷◌, [], length, ap, arith, length-append}
use Rattle.std.specs.Map.{remove_entry}
use Rattle.cordyceps_uses.specs.Keyed.{order}
use Rattle.cordyceps_uses.proofs.Ordered.{shorter}
use Rattle.cordyceps_uses.proofs.recency.Cache.insert.Goals as goal

pub invariant_of-self : goal.invariant_of-self
invariant_of-self g c =
    let r = c.replace-old.ensures in let test = g.K.PartialEq.eq c.args.key in let s = order 0 c.self.inside.map in
    let now = ap length r.entries in let last = length-append (remove_entry test s) ((r.key, c.args.value) ∷ []) in
    let before = shorter test s (r.key, c.replace-old.result) r.found in let fits = c.self.invariant.fits in
    record { some = c.self.invariant.some; fits = omega (arith, now, last, before, fits) }
