use Rattle.std.proofs.Common.{◌≡◌, [], ◌++◌, List, length}
use Rattle.cordyceps_queue.specs.Shared.Calls.{PartyOf}
use Rattle.cordyceps_channel.specs.Channels.{Receives}
use Rattle.cordyceps_channel.proofs.Apart.{AreKnown}
use Rattle.cordyceps_channel.proofs.laws.receive_all_of.Given as goal

abbrev pub invariant-loop-sender : goal.invariant-loop-sender
invariant-loop-sender g l = (learned : List (PartyOf _)) × (l.fn.closed.items ≡ l.closed.items ++ learned) × AreKnown learned l.receiver × Receives [] l.fn.receiver l.receiver

abbrev pub decreases-loop-sender : goal.decreases-loop-sender
decreases-loop-sender g l = length l.closed.items
