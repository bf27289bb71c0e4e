use Rattle.std.proofs.Common.{◌≡◌}
use Rattle.cordyceps_queue.specs.Shared.Calls.{FindsFull}
use Rattle.cordyceps_queue.proofs.SharedTheory.WaitingTries.{Retried}
use Rattle.cordyceps_queue.proofs.shared.calls.MpscQueue.enqueue_waiting.Given as goal

abbrev pub invariant-loop : goal.invariant-loop
invariant-loop g l = (l.handle ≡ l.initial.handle) × Retried FindsFull l.initial.party l.party
