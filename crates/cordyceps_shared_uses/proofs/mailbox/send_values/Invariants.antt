use Rattle.std.proofs.Common.{[], take}
use Rattle.cordyceps.specs.Queues.Moves.{Moves}
use Rattle.cordyceps_shared_uses.specs.Mailbox.{value_of}
use Rattle.cordyceps_shared_uses.proofs.mailbox.send_values.Given as goal

abbrev pub invariant-loop-value : goal.invariant-loop-value
invariant-loop-value g l = Moves value_of (take l.value-index l.values) [] l.initial.party l.party
