use Rattle.cordyceps_channel.specs.Selects.{ReceivesNothing}
use Rattle.cordyceps_channel.proofs.select.Select.recv.Given as goal

abbrev pub invariant-loop : goal.invariant-loop
invariant-loop g l = ReceivesNothing l.initial.self l.self
