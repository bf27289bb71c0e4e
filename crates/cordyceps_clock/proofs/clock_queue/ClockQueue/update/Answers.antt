use Rattle.std.proofs.Common.{rules, ◌≤◌, ◌<◌, ◌^◌, ap, sym, ◌∙◌, subst, arith}
use Rattle.std.specs.Ordering.{nat_cmp}
use Rattle.cordyceps_base.specs.BySpot.{IsTaken}
use Rattle.cordyceps_base.specs.Element.{Element}
use Rattle.cordyceps_single.specs.ByKey.{by_key}
use Rattle.cordyceps_clock.specs.Clock.{Clocked, Holds}
use Rattle.cordyceps_clock.proofs.Reached.{changed_keeps}
use Rattle.cordyceps_clock.proofs.Renewals.{holds_renewed, timed_renewed}
use Rattle.cordyceps_clock.proofs.clock_queue.ClockQueue.update.Goals as goal

pub invariant_of-self : goal.invariant_of-self
invariant_of-self g c of has =
    let clock = c.self.inside.clock in let old = c.self.inside.buckets.list in let at = c.args.at in
    let S = Clocked g.row.T.Denot g.row.O.Denot in
    let shown = subst (λ (s : S). g.O.Times.computes_by s.time of) c.self.view_is has in
    let clock_is = ap (λ (s : Clocked g.row.T.Denot g.row.O.Denot). s.clock) c.self.view_is in
    let nodes = ap (λ (s : Clocked g.row.T.Denot g.row.O.Denot). s.nodes) c.self.view_is in
    let (e, w, rest, gave, (low, high, was, left), taken, lies) = c.renew.ensures.changed in
    let later = c.requires.due of e c.renew.result w shown (low, high, sym nodes ∙ was) gave in
    let from : clock ≤ of w = omega (arith, clock_is, later) in
    let n : Element g.row.T.Denot = record { id = e.id; value = w } in
    timed_renewed of clock c.self.inside.buckets.ends c.renew.new.self.ends old rest c.renew.new.self.list at e n
    (c.self.invariant of has) (low, high, was, left) (lies of has) from

pub returns-clause-changed : goal.returns-clause-changed
returns-clause-changed g c =
    let clock = c.self.inside.clock in let old = c.self.inside.buckets.list in let at = c.args.at in
    let nodes = ap (λ (s : Clocked g.row.T.Denot g.row.O.Denot). s.nodes) c.self.view_is in
    let (e, w, rest, gave, gone, taken, lies) = c.renew.ensures.changed in
    let small : clock < 2 ^ 64 = search rules in (
      e,
      w,
      rest,
      gave,
      subst (λ l. IsTaken l at e rest) nodes gone,
      taken,
      λ of a has h.
          let S = Clocked g.row.T.Denot g.row.O.Denot in
          let n : Element g.row.T.Denot = record { id = e.id; value = w } in
          let own = subst (λ (s : S). g.O.Times.computes_by s.time of) (sym c.self.view_is) has in
          holds_renewed of clock c.self.inside.buckets.ends c.renew.new.self.ends old rest c.renew.new.self.list at e n
          (c.self.invariant of own) gone (lies of own) small a
          (subst (λ l. Holds (by_key nat_cmp of) l a) (sym nodes) h),
    )

pub returns-clause-kept : goal.returns-clause-kept
returns-clause-kept g c p has =
    let (e, w, rest, _, was, is, _) = returns-clause-changed g c in
    changed_keeps c.args.self.now.nodes c.renew.new.self.list rest c.args.at p e (record { id = e.id; value = w }) was is has
