use Rattle.std.proofs.Common.{[]}
use Rattle.cordyceps_channel.specs.declared.errors.TryRecvError.TheVariants.{Empty}
use Rattle.cordyceps_channel.proofs.Received.{receives_then}
use Rattle.cordyceps_channel.proofs.Waiting.{finds_none, finds_empty, finds_later}
use Rattle.cordyceps_channel.proofs.receiver.Receiver.recv_deadline.Goals as goal

pub loop-preserved : goal.loop-preserved
loop-preserved g c =
    let v = c.loop.self in
    let w = c.try_recv.new.self in
    receives_then c.args.self.now v w [] [] c.loop.invariant (finds_none c.in-Err-Empty.field-0 v w c.in-Err-Empty.ensures)

pub returns-then-not-wait_until : goal.returns-then-not-wait_until
returns-then-not-wait_until g c =
    let e = c.in-Err-Empty in
    let v = c.loop.self in
    let w = c.try_recv.new.self in
    finds_later Empty c.args.self.now v w c.loop.invariant (finds_empty e.field-0 v w e.field-0-is e.ensures)
