use Rattle.cordyceps_channel.specs.Channels.{DoesNothing}
use Rattle.cordyceps_channel.proofs.shared.give_all_back.Given as goal

abbrev pub invariant-loop : goal.invariant-loop
invariant-loop g l = DoesNothing l.initial.party l.party
