use Rattle.std.proofs.Common.{◌≡◌}
use Rattle.cordyceps_queue.specs.Shared.Calls.{FindsBusy}
use Rattle.cordyceps_queue.proofs.SharedTheory.WaitingTries.{Waited}
use Rattle.cordyceps_queue.proofs.shared.calls.MpscQueue.consume_owned.Given as goal

abbrev pub invariant-loop : goal.invariant-loop
invariant-loop g l = record {
  iterator : (goal.iterator-loop g).can_next l.iterator' × (goal.iterator-loop g).is_finite l.iterator';
  queue : l.both.0 ≡ l.initial.both.0;
  waited : Waited FindsBusy l.initial.both.1 l.both.1;
}
