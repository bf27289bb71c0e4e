use Rattle.std.proofs.Common.{refl, sym, subst}
use Rattle.cordyceps_base.specs.BySpot.{HasSpot}
use Rattle.cordyceps_c_base.proofs.Fitting.{ended_fits}
use Rattle.cordyceps_c_timers.specs.Timers.{Running, StopsAt, due_of, slot_of}
use Rattle.cordyceps_c_timers.proofs.TimersSaid.{runs_at, seen, stops_at}
use Rattle.cordyceps_c_timers.proofs.timers.Timers.stop_unchecked.Goals as goal

pub remove-timer-requires-clause-there : goal.remove-timer-requires-clause-there
remove-timer-requires-clause-there c = runs_at c.self.inside.queue.nodes c.args.at (subst (λ (t : Running). HasSpot t.nodes c.args.at) (sym c.self.view_is) c.requires)

pub invariant_of-self : goal.invariant_of-self
invariant_of-self c =
    let was = c.self.inside in
    ended_fits slot_of was.tickets c.into_fired.new.tickets was.queue.nodes c.remove-timer.new.self.nodes c.args.at c.remove-timer.result c.self.invariant c.spots_are_distinct.ensures c.remove-timer.ensures.taken c.into_fired.ensures.ended

pub returns : goal.returns
returns c =
    let was = c.self.inside in let new = c.remove-timer.new.self in
    subst (λ (t : Running). StopsAt c.args.at c.into_fired.result t (seen new.nodes new.clock c.into_fired.new.tickets)) c.self.view_is
    (stops_at was.queue.nodes new.nodes was.queue.clock new.clock was.tickets c.into_fired.new.tickets c.args.at c.remove-timer.result c.into_fired.result c.self.invariant c.spots_are_distinct.ensures
    c.into_fired.ensures.fired c.remove-timer.ensures.now c.into_fired.ensures.ended
    (λ a h. c.remove-timer.ensures.arrivals due_of a refl h))
