use Rattle.std.proofs.Common.{◌≡◌}
use Rattle.cordyceps_channel.proofs.sender.take_register.Given as goal

abbrev pub invariant-loop : goal.invariant-loop
invariant-loop g l = l.place ≡ l.initial.place
