use Rattle.std.proofs.Common.{◌≡◌, ◌<◌, ◌≤◌, ap, sym, subst, ◌∙◌}
use Rattle.cordyceps_uses.specs.declared.expiring.Timed.{Timed}
use Rattle.cordyceps_uses.specs.Expiring.{Entry, by_use}
use Rattle.cordyceps_uses.proofs.States.{live_here, live_gone}
use Rattle.cordyceps_uses.proofs.expiring.live_spot.Goals as goal

pub returns-then-now-value_of-clause-live : goal.returns-then-now-value_of-clause-live
returns-then-now-value_of-clause-live g c =
    let a = c.in_ok-at.ensures.found in let x = c.value_of.ensures in
    let is : a.entry.1 ≡ c.value_of.result.now = (let t = sym a.value ∙ x.value in let y : a.entry ≡ x.entry = cc in ap (λ (z : Entry _ _). z.1) y ∙ x.holds) in
    record { entry = a.entry; value = a.value; holds = live_here c.args.now (g.K.PartialEq.eq c.args.key.now) (by_use c.args.map.now) a.entry a.found (subst (λ (t : Timed _). c.args.now < t.until) (sym is) c.if-now-value_of.true) }

pub returns-else-now-value_of-clause-found : goal.returns-else-now-value_of-clause-found
returns-else-now-value_of-clause-found g c =
    let a = c.in_ok-at.ensures.found in let x = c.value_of.ensures in
    let is : a.entry.1 ≡ c.value_of.result.now = (let t = sym a.value ∙ x.value in let y : a.entry ≡ x.entry = cc in ap (λ (z : Entry _ _). z.1) y ∙ x.holds) in
    live_gone c.args.now (g.K.PartialEq.eq c.args.key.now) (by_use c.args.map.now) a.entry a.found (subst (λ (t : Timed _). t.until ≤ c.args.now) (sym is) c.if-now-value_of.false)
