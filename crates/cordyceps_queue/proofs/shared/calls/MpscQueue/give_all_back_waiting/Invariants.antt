use Rattle.std.proofs.Common.{false}
use Rattle.cordyceps_queue.specs.Shared.Calls.{GivesAllBack}
use Rattle.cordyceps_queue.proofs.SharedTheory.WaitingTries.{Waited}
use Rattle.cordyceps_queue.proofs.shared.calls.MpscQueue.give_all_back_waiting.Given as goal

abbrev pub invariant-loop : goal.invariant-loop
invariant-loop g l = Waited (GivesAllBack false) l.initial.party l.party
