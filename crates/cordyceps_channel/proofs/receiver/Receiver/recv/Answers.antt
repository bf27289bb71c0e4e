use Rattle.std.proofs.Common.{[]}
use Rattle.cordyceps_channel.proofs.Received.{receives_then}
use Rattle.cordyceps_channel.proofs.Waiting.{finds_none}
use Rattle.cordyceps_channel.proofs.receiver.Receiver.recv.Goals as goal

pub loop-preserved : goal.loop-preserved
loop-preserved g c =
    let v = c.loop.self in
    let w = c.try_recv.new.self in
    receives_then c.args.self.now v w [] [] c.loop.invariant (finds_none c.in-Err-Empty.field-0 v w c.in-Err-Empty.ensures)
