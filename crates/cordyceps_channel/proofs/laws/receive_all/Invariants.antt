use Rattle.cordyceps_channel.specs.Channels.{Receives}
use Rattle.cordyceps_channel.proofs.laws.receive_all.Given as goal

abbrev pub invariant-loop : goal.invariant-loop
invariant-loop g l = Receives l.all.items l.initial.receiver l.receiver
