use Rattle.std.proofs.Common.{Some, None, refl, subst}
use Rattle.cordyceps_c_base.proofs.Fitting.{ended_fits, there_is}
use Rattle.cordyceps_c_timers.specs.Timers.{Running, Stops, due_of, slot_of}
use Rattle.cordyceps_c_timers.proofs.TimersSaid.{none_has, seen, stops}
use Rattle.cordyceps_c_timers.proofs.timers.Timers.stop.Goals as goal

pub returns-in_err-spot : goal.returns-in_err-spot
returns-in_err-spot c =
    let was = c.self.inside in
    rw c.from_residual.ensures (subst (λ (t : Running). Stops c.args.ticket None t t) c.self.view_is (none_has was.queue.nodes was.queue.clock was.tickets c.args.ticket c.self.invariant c.in_err-spot.ensures, refl))

pub remove-timer-requires-clause-there : goal.remove-timer-requires-clause-there
remove-timer-requires-clause-there c =
    let was = c.self.inside in there_is slot_of was.tickets was.queue.nodes c.args.ticket c.in_ok-spot.spot c.self.invariant c.in_ok-spot.ensures

pub invariant_of-self : goal.invariant_of-self
invariant_of-self c =
    let was = c.self.inside in
    ended_fits slot_of was.tickets c.into_fired.new.tickets was.queue.nodes c.remove-timer.new.self.nodes c.in_ok-spot.spot c.remove-timer.result c.self.invariant c.spots_are_distinct.ensures c.remove-timer.ensures.taken c.into_fired.ensures.ended

pub returns : goal.returns
returns c =
    let was = c.self.inside in let new = c.remove-timer.new.self in
    subst (λ (t : Running). Stops c.args.ticket (Some c.into_fired.result) t (seen new.nodes new.clock c.into_fired.new.tickets)) c.self.view_is
    (stops was.queue.nodes new.nodes was.queue.clock new.clock was.tickets c.into_fired.new.tickets c.in_ok-spot.spot c.remove-timer.result c.args.ticket c.into_fired.result c.self.invariant c.spots_are_distinct.ensures c.in_ok-spot.ensures
    c.remove-timer.ensures.taken c.into_fired.ensures.fired c.remove-timer.ensures.now c.into_fired.ensures.ended (λ a h. c.remove-timer.ensures.arrivals due_of a refl h))
