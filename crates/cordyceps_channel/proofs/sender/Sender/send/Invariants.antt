use Rattle.std.proofs.Common.{◌≡◌}
use Rattle.cordyceps_channel.specs.Channels.{SendsNothing}
use Rattle.cordyceps_channel.proofs.sender.Sender.send.Given as goal

abbrev pub invariant-loop : goal.invariant-loop
invariant-loop g l = (l.handle ≡ l.initial.handle) × SendsNothing l.initial.self l.self
