use Rattle.std.proofs.Common.{◌≡◌, List, length, Some, refl, arith, ap, sym, ◌∙◌, option_map}
use Rattle.cordyceps.specs.Spots.Entries.{value_at}
use Rattle.cordyceps_uses.specs.Expiring.{Entry, Kept, live, used, by_use}
use Rattle.cordyceps_uses.proofs.Ordered.{moved_long}
use Rattle.cordyceps_uses.proofs.States.{used_here}
use Rattle.cordyceps_uses.proofs.expiring.ExpiringCache.get.Goals as goal

pub invariant_of-self-2 : goal.invariant_of-self-2
invariant_of-self-2 g c =
    let a = c.in_ok-spot.ensures.found in let long = ap length c.use_at.ensures.moved in let fits = c.self.invariant.fits in
    let same = moved_long (g.K.PartialEq.eq c.args.key.now) (by_use c.self.inside.map) a.entry a.found in
    record { some = c.self.invariant.some; fits = omega (arith, long, same, fits); timed = c.use_at.ensures.timed }

pub returns : goal.returns
returns g c =
    let test = g.K.PartialEq.eq c.args.key.now in let m = c.self.inside.map in let old = c.in_ok-spot.ensures.live in let x = c.value_of.ensures in
    let is : old.entry ≡ x.entry = (let t = sym old.value ∙ sym (ap (λ n. value_at n c.in_ok-spot.spot) c.use_at.ensures.nodes) ∙ x.value in cc) in
    let kept : List (Entry _ _) → Kept _ _ = λ es. record { entries = es; capacity = c.self.inside.capacity } in (
      (refl, λ _. tt, ap kept (c.use_at.ensures.moved ∙ sym (used_here c.args.now test (by_use m) old.entry old.holds)) ∙ ap (λ (h : Kept _ _). record { entries = used c.args.now test h.entries; capacity = h.capacity }) c.self.view_is),
      record {
        uses = tt;
        value = ap (λ t. Some t.value) (sym x.holds ∙ sym (ap (λ (y : Entry _ _). y.1) is)) ∙ sym (ap (λ o. option_map (λ y. y.1.value) o) old.holds)
            ∙ ap (λ (h : Kept _ _). option_map (λ y. y.1.value) (live c.args.now test h.entries)) c.self.view_is;
      },
    )
