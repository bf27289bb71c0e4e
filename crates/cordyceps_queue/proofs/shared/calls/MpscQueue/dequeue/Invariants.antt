use Rattle.cordyceps_queue.specs.Shared.Calls.{MissesDequeue}
use Rattle.cordyceps_queue.proofs.SharedTheory.WaitingTries.{Waited}
use Rattle.cordyceps_queue.proofs.shared.calls.MpscQueue.dequeue.Given as goal

abbrev pub invariant-loop : goal.invariant-loop
invariant-loop g l =
    ((goal.iterator-loop g).can_next l.iterator' × (goal.iterator-loop g).is_finite l.iterator')
    × Waited MissesDequeue l.initial.party l.party
