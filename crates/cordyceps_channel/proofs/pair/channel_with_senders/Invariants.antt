use Rattle.cordyceps_channel.proofs.Making.{HasSenders}
use Rattle.cordyceps_channel.proofs.pair.channel_with_senders.Given as goal

abbrev pub invariant-loop : goal.invariant-loop
invariant-loop g l = HasSenders l.fn.rooms l.counter l.fresh l.senders.items
