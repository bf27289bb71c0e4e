use Rattle.std.specs.Prelude.{Err}
use Rattle.cordyceps_queue.specs.declared.cores.steps.TryDequeueError.TheVariants as error
use Rattle.cordyceps_queue.specs.Shared.Calls.{Consumes}
use Rattle.cordyceps_queue.proofs.SharedTheory.WaitingTries.{Waited}
use Rattle.cordyceps_queue.proofs.shared.consumer.Consumer.dequeue.Given as goal

abbrev pub invariant-loop : goal.invariant-loop
invariant-loop g l =
    ((goal.iterator-loop g).can_next l.iterator' × (goal.iterator-loop g).is_finite l.iterator')
    × Waited (Consumes (Err error.Inconsistent)) l.initial.self l.self
