use Rattle.std.proofs.Common.{rules, ◌≡◌, ◌<◌, ◌≤◌, ◌^◌, ◌⊎◌, [], ap, sym, ◌∙◌, subst}
use Rattle.std.specs.List.{AllByRecursion}
use Rattle.cordyceps_stable.specs.Agreeing.{HasElementAt}
use Rattle.cordyceps_clock.specs.Clock.{Clocked, rounded}
use Rattle.cordyceps_clock.proofs.Bounds.{least_is_near, none_earlier}
use Rattle.cordyceps_clock.proofs.Ends.{value_is}
use Rattle.cordyceps_clock.proofs.clock_queue.ClockQueue.not_before.Goals as goal

pub returns-clause-none_before : goal.returns-clause-none_before
returns-clause-none_before g c of has =
    let S = Clocked g.row.T.Denot g.row.O.Denot in
    let list = c.self.inside.buckets.list in let clock = c.self.inside.clock in let t = c.least_of_bucket.result in
    let nodes = ap (λ (s : Clocked g.row.T.Denot g.row.O.Denot). s.nodes) c.self.view_is in
    let own = subst (λ (s : S). g.O.Times.computes_by s.time of) (sym c.self.view_is) has in
    let (x, after, is) = c.in_ok-at.ensures.first in let (v, holds, tells) = c.time_at-due.ensures in
    let value = value_is of clock 0 list [] after c.in_ok-at.at x v c.spots_are_distinct.ensures is holds in
    let same : t ≡ rounded clock (of x.value) = c.least_of_bucket.ensures ∙ ap (rounded clock) (tells of own ∙ ap of value) in
    let small : clock < 2 ^ 64 = search rules in
    let low = none_earlier of clock small c.self.inside.buckets.ends list after c.in_ok-at.at x (c.self.invariant of own) is in
    subst (AllByRecursion (λ n. t ≤ of n.1.value)) nodes
    (subst (λ b. AllByRecursion (λ n. b ≤ of n.1.value) list) (sym same) low)

pub returns-clause-near : goal.returns-clause-near
returns-clause-near g c of has =
    let S = Clocked g.row.T.Denot g.row.O.Denot in
    let list = c.self.inside.buckets.list in let clock = c.self.inside.clock in let t = c.least_of_bucket.result in
    let nodes = ap (λ (s : Clocked g.row.T.Denot g.row.O.Denot). s.nodes) c.self.view_is in
    let clock_is = ap (λ (s : Clocked g.row.T.Denot g.row.O.Denot). s.clock) c.self.view_is in
    let own = subst (λ (s : S). g.O.Times.computes_by s.time of) (sym c.self.view_is) has in
    let (x, after, is) = c.in_ok-at.ensures.first in let (v, holds, tells) = c.time_at-due.ensures in
    let value = value_is of clock 0 list [] after c.in_ok-at.at x v c.spots_are_distinct.ensures is holds in
    let same : t ≡ rounded clock (of x.value) = c.least_of_bucket.ensures ∙ ap (rounded clock) (tells of own ∙ ap of value) in
    let small : clock < 2 ^ 64 = search rules in
    let (q, e, (lies, low), one, after_clock) =
    least_is_near of clock small c.self.inside.buckets.ends list after c.in_ok-at.at x (c.self.invariant of own) is in (
      q,
      e,
      subst (λ l. HasElementAt l q e) nodes lies,
      subst (AllByRecursion (λ n. of e.value ≤ of n.1.value)) nodes low,
      subst (λ (n : _). t ≡ rounded n (of e.value)) clock_is (same ∙ one),
      subst (λ (n : _). (n < t) ⊎ (of e.value ≡ t)) clock_is
          (subst (λ (b : _). (clock < b) ⊎ (of e.value ≡ b)) (sym same) after_clock),
    )
