use Rattle.std.proofs.Common.{◌∙◌, subst, refl}
use Rattle.cordyceps_channel.specs.Channels.{Sends}
use Rattle.cordyceps_channel.proofs.Received.{nothing, nothing_then}
use Rattle.cordyceps_channel.proofs.Waiting.{back_full, back_ended}
use Rattle.cordyceps_channel.proofs.sender.Sender.send.Goals as goal

pub loop-init : goal.loop-init
loop-init g c = (refl, nothing c.args.self.now)

pub returns-in-Ok : goal.returns-in-Ok
returns-in-Ok g c =
    let (same, before) = c.loop.invariant in
    subst (λ e. Sends e c.args.self.now c.try_send.new.self) same (nothing_then c.args.self.now c.loop.self c.try_send.new.self before c.in-Ok.ensures)

pub returns-in-Err-Disconnected : goal.returns-in-Err-Disconnected
returns-in-Err-Disconnected g c =
    let (same, before) = c.loop.invariant in
    let i = c.in-Err-Disconnected in
    let h = back_ended c.loop.handle i.value i.field-0 c.loop.self c.try_send.new.self i.field-0-is i.ensures in
    (h.0 ∙ same, nothing_then c.args.self.now c.loop.self c.try_send.new.self before h.1)

pub loop-preserved : goal.loop-preserved
loop-preserved g c =
    let (same, before) = c.loop.invariant in
    let i = c.in-Err-Full in
    let h = back_full c.loop.handle i.value i.field-0 c.loop.self c.try_send.new.self i.field-0-is i.ensures in
    (h.0 ∙ same, nothing_then c.args.self.now c.loop.self c.try_send.new.self before h.1)
