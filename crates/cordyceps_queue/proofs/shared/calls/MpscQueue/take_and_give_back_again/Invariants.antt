use Rattle.std.proofs.Common.{◌≤◌, []}
use Rattle.cordyceps_queue.specs.Shared.Calls.{Adds}
use Rattle.cordyceps_queue.proofs.shared.calls.MpscQueue.take_and_give_back_again.Given as goal

abbrev pub invariant-loop-try : goal.invariant-loop-try
invariant-loop-try g l = record {
  seen : Adds l.initial.party [] l.party;
  more : l.initial.party.rooms ≤ l.party.rooms;
}
