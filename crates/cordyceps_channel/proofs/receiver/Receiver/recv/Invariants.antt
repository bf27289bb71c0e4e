use Rattle.std.proofs.Common.{[]}
use Rattle.cordyceps_channel.specs.Channels.{Receives}
use Rattle.cordyceps_channel.proofs.receiver.Receiver.recv.Given as goal

abbrev pub invariant-loop : goal.invariant-loop
invariant-loop g l = Receives [] l.initial.self l.self
