use Rattle.std.proofs.Common.{rules, ◌<◌, ◌^◌, ℕ, [], ap, sym, subst}
use Rattle.std.specs.Ordering.{nat_cmp}
use Rattle.cordyceps_single.specs.ByKey.{by_key}
use Rattle.cordyceps_stable.specs.Agreeing.{HasElementAt}
use Rattle.cordyceps_stable.proofs.Holding.{spot_is_at}
use Rattle.cordyceps_clock.specs.Clock.{Clocked, Holds}
use Rattle.cordyceps_clock.proofs.Ends.{held_is}
use Rattle.cordyceps_clock.proofs.Fronts.{front_least, front_there}
use Rattle.cordyceps_clock.proofs.clock_queue.ClockQueue.front.Goals as goal

pub returns-clause-first : goal.returns-clause-first
returns-clause-first g c =
    let nodes = ap (λ (s : Clocked g.row.T.Denot g.row.O.Denot). s.nodes) c.self.view_is in
    let list = c.self.inside.buckets.list in let clock = c.self.inside.clock in let k = c.bucket-k.result in
    let (x, after, is) = c.in_ok-at.ensures.first in let (v, holds, tells) = c.time_at.ensures in let first = c.first_bucket-first.result in
    let callable = subst (λ (s : Clocked g.row.T.Denot g.row.O.Denot). g.O.Times.can_compute s.time) (sym c.self.view_is) c.requires in
    let small : clock < 2 ^ 64 = search rules in
    let (of, own) = g.met.O.Times.computes c.self.inside.times callable in
    let bucket = λ (f : g.row.T.Denot → ℕ) (has : g.O.Times.computes_by c.self.inside.times f).
    c.first_bucket-first.ensures f x after has (c.self.invariant f has).kept.ascends is
    (held_is f clock k list [] after c.in_ok-at.at x v c.time_at.result c.spots_are_distinct.ensures is holds (tells f has) c.bucket-k.ensures.is) in
    let (e, there) = front_there of clock k c.self.inside.buckets.ends list first.least first.at first.len small (c.self.invariant of own) (bucket of own) in (
      e,
      subst (λ l. HasElementAt l first.at e) nodes there,
      λ f a has h.
          let asked = subst (λ (s : Clocked g.row.T.Denot g.row.O.Denot). g.O.Times.computes_by s.time f) (sym c.self.view_is) has in
          front_least f clock k c.self.inside.buckets.ends list first.least first.at first.len small (c.self.invariant f asked) (bucket f asked) e c.spots_are_distinct.ensures there a (subst (λ l. Holds (by_key nat_cmp f) l a) (sym nodes) h),
    )

pub returns-clause-there : goal.returns-clause-there
returns-clause-there g c =
    let (e, lies, _) = returns-clause-first g c in spot_is_at c.args.self.now.nodes c.first_bucket-first.result.at e lies
