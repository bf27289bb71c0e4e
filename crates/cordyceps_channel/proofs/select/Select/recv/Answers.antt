use Rattle.cordyceps_channel.specs.declared.errors.TryRecvError.TheVariants as why
use Rattle.cordyceps_channel.proofs.Selecting.{none_received, found_later, selects_empty, selects_as}
use Rattle.cordyceps_channel.proofs.select.Select.recv.Goals as goal

pub loop-init : goal.loop-init
loop-init g c = none_received c.args.self.now

pub returns-in-Ok : goal.returns-in-Ok
returns-in-Ok g c = found_later c.in-Ok.found.index c.in-Ok.found.value c.args.self.now c.loop.self c.try_recv.new.self c.loop.invariant c.in-Ok.ensures

pub returns-in-Err-Disconnected : goal.returns-in-Err-Disconnected
returns-in-Err-Disconnected g c =
    let e = c.in-Err-Disconnected in
    selects_as e.field-0 why.Disconnected c.args.self.now c.loop.self c.try_recv.new.self e.field-0-is c.loop.invariant e.ensures

pub loop-preserved : goal.loop-preserved
loop-preserved g c = selects_empty c.in-Err-Empty.field-0 c.args.self.now c.loop.self c.try_recv.new.self c.loop.invariant c.in-Err-Empty.ensures
