use Rattle.std.proofs.Common.{◌≡◌, List, length, Some, refl, arith, ap, sym, ◌∙◌, option_map}
use Rattle.std.specs.Map.{lookup_entry}
use Rattle.cordyceps.specs.Spots.Entries.{value_at}
use Rattle.cordyceps_uses.specs.Keyed.{order, moved_back}
use Rattle.cordyceps_uses.specs.Recency.{Held}
use Rattle.cordyceps_uses.proofs.Ordered.{moved_long}
use Rattle.cordyceps_uses.proofs.recency.Cache.get.Goals as goal

pub invariant_of-self-2 : goal.invariant_of-self-2
invariant_of-self-2 g c =
    let a = c.in_ok-spot.ensures.found in let long = ap length c.move_back.ensures.moved in let fits = c.self.invariant.fits in
    let same = moved_long (g.K.PartialEq.eq c.args.key.now) (order 0 c.self.inside.map) a.entry a.found in
    record { some = c.self.invariant.some; fits = omega (arith, long, same, fits) }

pub returns : goal.returns
returns g c =
    let test = g.K.PartialEq.eq c.args.key.now in let a = c.in_ok-spot.ensures.found in let x = c.value_of.ensures in
    let is : a.entry ≡ x.entry = (let t = sym a.value ∙ sym (ap (λ n. value_at n c.in_ok-spot.spot) c.move_back.ensures.nodes) ∙ x.value in cc) in
    let kept : List (_ × _) → Held _ _ = λ es. record { entries = es; capacity = c.self.inside.capacity } in (
      (refl, λ _. tt, ap kept c.move_back.ensures.moved ∙ ap (λ (h : Held _ _). record { entries = moved_back test h.entries; capacity = h.capacity }) c.self.view_is),
      record {
        uses = tt;
        value = ap (λ v. Some v) (sym x.holds ∙ sym (ap (λ (y : _ × _). y.1) is)) ∙ sym (ap (λ o. option_map (λ y. y.1) o) a.found)
            ∙ ap (λ (h : Held _ _). option_map (λ y. y.1) (lookup_entry test h.entries)) c.self.view_is;
      },
    )
