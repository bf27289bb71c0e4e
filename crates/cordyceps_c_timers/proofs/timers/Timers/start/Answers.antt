use Rattle.std.proofs.Common.{◌+◌, max, Some, refl, ap, ◌∙◌, subst}
use Rattle.cordyceps_c_base.proofs.Fitting.{put_fits, same_fits}
use Rattle.cordyceps_c_timers.specs.Timers.{Running, Starts, new_timer, due_of, slot_of}
use Rattle.cordyceps_c_timers.proofs.TimersSaid.{seen, starts}
use Rattle.cordyceps_c_timers.proofs.timers.Timers.start.Goals as goal

pub invariant_of-self : goal.invariant_of-self
invariant_of-self c =
    let told = c.in_err-ticket.ensures in
    same_fits slot_of c.self.inside.tickets c.reserve.new.self c.self.inside.queue.nodes c.self.invariant told.given told.same

pub invariant_of-self-in_default : goal.invariant_of-self-in_default
invariant_of-self-in_default c =
    let told = c.in_ok-ticket.ensures in
    same_fits slot_of c.self.inside.tickets c.reserve.new.self c.self.inside.queue.nodes c.self.invariant told.given told.same

pub invariant_of-self-2 : goal.invariant_of-self-2
invariant_of-self-2 c =
    let was = c.self.inside.queue.nodes in let k = c.in_ok-ticket.ticket in let told = c.in_ok-ticket.ensures in let e = c.in-Ok.timer in
    let fit = same_fits slot_of c.self.inside.tickets c.reserve.new.self was c.self.invariant told.given told.same in
    put_fits slot_of c.reserve.new.self c.give.new.self was c.push-spot.new.self.nodes c.push-spot.result e k fit told.next c.push-spot.ensures.others
    (ap (λ (x : _). slot_of x.value) c.in-Ok.ensures.made) (ap (λ (x : _). x.id) c.in-Ok.ensures.made) c.give.ensures.given c.give.ensures.put

pub returns : goal.returns
returns c =
    let was = c.self.inside.queue in let new = c.push-spot.new.self in let k = c.in_ok-ticket.ticket in let told = c.in_ok-ticket.ensures in
    let is = c.in-Ok.ensures.made ∙ ap (λ n. record (new_timer was.clock c.args.deadline c.args.payload k) { value = record { due = n; deadline = c.args.deadline; payload = c.args.payload; slot = k.slot } }) (c.max.ensures ∙ ap (max c.args.deadline) c.now.ensures) in
    subst (λ (t : Running). Starts c.args.deadline c.args.payload (Some k) t (seen new.nodes new.clock c.give.new.self)) c.self.view_is
    (starts was.nodes new.nodes was.clock new.clock c.self.inside.tickets c.give.new.self c.push-spot.result c.in-Ok.timer k c.args.deadline c.args.payload is
    (told.next.collection ∙ told.collection) (told.next.number ∙ ap (λ n. n + 1) told.given) c.push-spot.ensures.now (c.give.ensures.collection ∙ told.collection) c.give.ensures.given
    (λ a h. c.push-spot.ensures.arrivals due_of a refl h))
