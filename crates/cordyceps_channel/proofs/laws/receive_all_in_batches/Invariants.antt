use Rattle.cordyceps_channel.specs.Channels.{ReceivesAs}
use Rattle.cordyceps_channel.proofs.laws.receive_all_in_batches.Given as goal

abbrev pub invariant-loop : goal.invariant-loop
invariant-loop g l = ReceivesAs g.T.Linked.element l.all.items l.initial.receiver l.receiver
