use Rattle.std.proofs.Common.{subst, sym}
use Rattle.cordyceps_channel.specs.Selects.{Selects}
use Rattle.cordyceps_channel.proofs.Telling.{selected_none, selected_more, selected_last}
use Rattle.cordyceps_channel.proofs.laws.select_all.Goals as goal

pub loop-init : goal.loop-init
loop-init g c = subst (λ l. Selects l c.args.select.now c.args.select.now) (sym c.new-all.ensures.items) (selected_none c.args.select.now)

pub loop-preserved : goal.loop-preserved
loop-preserved g c =
    let us = c.args.select.now in
    let ws = c.recv.new.self in
    subst (λ l. Selects l us ws) (sym c.in_ok-push-in-Ok.ensures.items) (selected_more c.loop.all.items c.in-Ok.found us c.loop.select ws c.loop.invariant c.in-Ok.ensures.each)

pub returns-in-Err : goal.returns-in-Err
returns-in-Err g c =
    (selected_last c.loop.all.items c.args.select.now c.loop.select c.recv.new.self c.loop.invariant c.in-Err.ensures.0, c.in-Err.ensures.1)
