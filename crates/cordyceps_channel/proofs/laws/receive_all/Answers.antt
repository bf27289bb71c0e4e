use Rattle.std.proofs.Common.{[], ◌∷◌, subst, sym}
use Rattle.std.proofs.lemmas.List.{append-nil}
use Rattle.cordyceps_channel.specs.Channels.{Receives}
use Rattle.cordyceps_channel.proofs.Received.{receives_none, receives_then}
use Rattle.cordyceps_channel.proofs.laws.receive_all.Goals as goal

pub loop-init : goal.loop-init
loop-init g c = subst (λ l. Receives l c.args.receiver.now c.args.receiver.now) (sym c.new-all.ensures.items) (receives_none c.args.receiver.now)

pub loop-preserved : goal.loop-preserved
loop-preserved g c =
    let u = c.args.receiver.now in
    let w = c.recv.new.self in
    subst (λ l. Receives l u w) (sym c.in_ok-push-in-Ok.ensures.items) (receives_then u c.loop.receiver w c.loop.all.items (c.in-Ok.element ∷ []) c.loop.invariant c.in-Ok.ensures)

pub returns-in-Err : goal.returns-in-Err
returns-in-Err g c =
    let u = c.args.receiver.now in
    let w = c.recv.new.self in
    (subst (λ l. Receives l u w) (append-nil c.loop.all.items) (receives_then u c.loop.receiver w c.loop.all.items [] c.loop.invariant c.in-Err.ensures.0), c.in-Err.ensures.1)
