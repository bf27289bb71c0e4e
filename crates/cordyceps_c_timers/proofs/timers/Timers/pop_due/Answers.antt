use Rattle.std.proofs.Common.{◌∷◌, refl, subst}
use Rattle.std.proofs.lemmas.List.Sorted.{IsPermutation-sym}
use Rattle.cordyceps_c_base.proofs.Fitting.{permuted_fits}
use Rattle.cordyceps_c_timers.specs.Timers.{Fires, NoneFires, Running, due_of, slot_of}
use Rattle.cordyceps_c_timers.proofs.Ticketing.{popped_fits}
use Rattle.cordyceps_c_timers.proofs.TimersSaid.{fires, none_fires, seen}
use Rattle.cordyceps_c_timers.proofs.timers.Timers.pop_due.Goals as goal

pub invariant_of-self : goal.invariant_of-self
invariant_of-self c =
    let was = c.self.inside in let (_, same, _) = c.in_err-timer.ensures.due in
    permuted_fits slot_of was.tickets was.queue.nodes c.pop_due.new.self.nodes same c.self.invariant

pub returns-in_err-timer : goal.returns-in_err-timer
returns-in_err-timer c =
    let was = c.self.inside in let new = c.pop_due.new.self in let (clock, _, tells) = c.in_err-timer.ensures.due in let (later, holds) = tells due_of refl in
    rw c.from_residual.ensures (subst (λ (t : Running). NoneFires c.args.now t (seen new.nodes new.clock was.tickets)) c.self.view_is
    (none_fires was.queue.nodes new.nodes was.queue.clock new.clock was.tickets was.tickets c.args.now clock later holds))

pub invariant_of-self-2 : goal.invariant_of-self-2
invariant_of-self-2 c =
    let was = c.self.inside in let d = c.pop_due.new.self.nodes in let e = c.in_ok-timer.timer in let (spot, _, same) = c.in_ok-timer.ensures.due in
    popped_fits slot_of was.tickets c.into_fired.new.tickets was.queue.nodes d spot e c.self.invariant c.spots_are_distinct.ensures (IsPermutation-sym ((spot, e) ∷ d) was.queue.nodes same) c.into_fired.ensures.ended

pub returns : goal.returns
returns c =
    let was = c.self.inside in let new = c.pop_due.new.self in let (spot, tells, _) = c.in_ok-timer.ensures.due in let (clock, early, holds) = tells due_of refl in
    subst (λ (t : Running). Fires c.args.now c.into_fired.result t (seen new.nodes new.clock c.into_fired.new.tickets)) c.self.view_is
    (fires was.queue.nodes new.nodes was.queue.clock new.clock was.tickets c.into_fired.new.tickets c.args.now spot c.in_ok-timer.timer c.into_fired.result c.self.invariant c.spots_are_distinct.ensures
    c.into_fired.ensures.fired clock early c.into_fired.ensures.ended holds)
