use Rattle.std.proofs.Common.{◌≡◌, arith, sym, subst}
use Rattle.std.specs.Map.{remove_entry}
use Rattle.cordyceps_uses.specs.Expiring.{Kept, by_use}
use Rattle.cordyceps_uses.proofs.Ordered.{none_cut, shrunk}
use Rattle.cordyceps_uses.proofs.expiring.ExpiringCache.remove.Goals as goal

pub returns-in_err-at-clause-entries : goal.returns-in_err-at-clause-entries
returns-in_err-at-clause-entries g c =
    let test = g.K.PartialEq.eq c.args.key.now in
    subst (λ (h : Kept _ _). h.entries ≡ remove_entry test h.entries) c.self.view_is (sym (none_cut test (by_use c.self.inside.map) c.in_err-at.ensures.found))

pub invariant_of-self : goal.invariant_of-self
invariant_of-self g c =
    let less = shrunk g.K.PartialEq.eq (by_use c.self.inside.map) c.taken.result (by_use c.taken.new.map) c.taken.ensures.out in let fits = c.self.invariant.fits in
    record { some = c.self.invariant.some; fits = omega (arith, less, fits); timed = c.taken.ensures.timed }
