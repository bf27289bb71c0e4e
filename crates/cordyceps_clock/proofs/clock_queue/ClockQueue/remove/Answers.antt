use Rattle.std.proofs.Common.{ap, sym, subst}
use Rattle.std.specs.Ordering.{nat_cmp}
use Rattle.cordyceps_base.specs.BySpot.{HasSpot}
use Rattle.cordyceps_single.specs.ByKey.{by_key}
use Rattle.cordyceps_stable.proofs.Holding.{others_stay}
use Rattle.cordyceps_clock.specs.Clock.{Clocked, Holds}
use Rattle.cordyceps_clock.proofs.Pops.{holds_removed, timed_taken}
use Rattle.cordyceps_clock.proofs.clock_queue.ClockQueue.remove.Goals as goal

pub invariant_of-self : goal.invariant_of-self
invariant_of-self g c of has =
    let timed = c.self.invariant of has in
    timed_taken of c.self.inside.clock c.self.inside.buckets.ends c.take_out.new.self.ends c.self.inside.buckets.list c.take_out.new.self.list c.args.at _ timed c.take_out.ensures.taken (c.take_out.ensures.kept of has timed.kept)

pub returns-clause-arrivals : goal.returns-clause-arrivals
returns-clause-arrivals g c of a has h =
    let view = ap (λ (s : Clocked g.row.T.Denot g.row.O.Denot). s.nodes) c.self.view_is in
    holds_removed of c.self.inside.buckets.list c.take_out.new.self.list a c.args.at _ c.take_out.ensures.taken (subst (λ l. Holds (by_key nat_cmp of) l a) (sym view) h)

pub returns-clause-kept : goal.returns-clause-kept
returns-clause-kept g c p has other =
    let view = ap (λ (s : Clocked g.row.T.Denot g.row.O.Denot). s.nodes) c.self.view_is in
    others_stay c.self.inside.buckets.list c.take_out.new.self.list c.args.at p _ c.take_out.ensures.taken
    (subst (λ l. HasSpot l p) (sym view) has) (λ same. other (sym same))
