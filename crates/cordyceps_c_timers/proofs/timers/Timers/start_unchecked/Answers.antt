use Rattle.std.proofs.Common.{◌≡◌, max, Some, refl, ap, ◌∙◌, subst}
use Rattle.cordyceps_c_base.proofs.Fitting.{put_without}
use Rattle.cordyceps_c_timers.specs.Timers.{Running, StartsAt, due_of, slot_of}
use Rattle.cordyceps_c_timers.proofs.TimersSaid.{seen, starts_at}
use Rattle.cordyceps_c_timers.proofs.timers.Timers.start_unchecked.Goals as goal

pub invariant_of-self : goal.invariant_of-self
invariant_of-self c =
    let was = c.self.inside in
    put_without slot_of was.tickets was.queue.nodes c.push.new.self.nodes c.push.result c.in-Ok.timer c.self.invariant c.push.ensures.others
    (ap (λ (x : _). x.id) c.in-Ok.ensures.made ∙ ap (λ (k : _). k.number) c.none-none.ensures)

pub returns : goal.returns
returns c =
    let was = c.self.inside in let new = c.push.new.self in
    let due : c.max.result ≡ max c.args.deadline was.queue.clock = c.max.ensures ∙ ap (max c.args.deadline) c.now.ensures in
    let made : c.in-Ok.timer ≡ record { id = c.none-none.result.number; value = record { due = c.max.result; deadline = c.args.deadline; payload = c.args.payload; slot = c.none-none.result.slot } } = c.in-Ok.ensures.made in
    let is = made ∙ (λ i. record { id = (c.none-none.ensures i).number; value = record { due = due i; deadline = c.args.deadline; payload = c.args.payload; slot = (c.none-none.ensures i).slot } }) in
    subst (λ (t : Running). StartsAt c.args.deadline c.args.payload (Some c.push.result) t (seen new.nodes new.clock was.tickets)) c.self.view_is
    (starts_at was.queue.nodes new.nodes was.queue.clock new.clock was.tickets was.tickets c.push.result c.in-Ok.timer c.args.deadline c.args.payload is c.push.ensures.now (λ a h. c.push.ensures.arrivals due_of a refl h))
