use Rattle.std.proofs.Common.{[], ◌∷◌, ◌++◌, ◌≡◌, ap, sym, ◌∙◌, subst, arith}
use Rattle.std.specs.Ordering.{nat_cmp}
use Rattle.cordyceps_base.specs.Element.{Element}
use Rattle.cordyceps_single.specs.ByKey.{by_key}
use Rattle.cordyceps_clock.specs.Clock.{Clocked, Holds}
use Rattle.cordyceps_clock.proofs.clock_queue.ClockQueue.try_push.Goals as goal

pub returns-clause-pushed : goal.returns-clause-pushed
returns-clause-pushed g c =
    let e = g.T.Linked.element c.from_ptr-handle.result in
    let clock_is = ap (λ (s : Clocked g.row.T.Denot g.row.O.Denot). s.clock) c.self.view_is in
    let same = c.from_ptr-handle.ensures ∙ c.into_ptr-node.ensures in
    let (low, high, is, was) = c.push.ensures.others in (
      (low, high, is ∙ (λ i. low ++ (c.push.result, same i) ∷ high), was),
      c.push.ensures.now,
      λ of has.
          let own = subst (λ (s : Clocked g.row.T.Denot g.row.O.Denot). g.O.Times.computes_by s.time of) (sym c.self.view_is) has in
          let time : c.time-due.result ≡ of (g.T.Linked.element c.args.handle).value = c.time-due.ensures of own ∙ ap of (c.get.ensures ∙ ap (λ (x : Element g.row.T.Denot). x.value) c.into_ptr-node.ensures) in (
            omega (arith, time, clock_is, c.if-due-self.false),
            λ a h. subst (λ (x : Element g.row.T.Denot). Holds (by_key nat_cmp of) c.push.new.self.nodes (a ++ (c.push.result, x) ∷ [])) same (c.push.ensures.arrivals of a has h),
          ),
    )
