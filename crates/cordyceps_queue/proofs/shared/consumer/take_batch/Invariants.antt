use Rattle.std.proofs.Common.{◌≡◌, ◌≤◌, ◌-◌, length}
use Rattle.cordyceps_queue.proofs.SharedTheory.TriesInTurn.{Given}
use Rattle.cordyceps_queue.proofs.SharedTheory.BatchTries.{Gives}
use Rattle.cordyceps_queue.proofs.shared.consumer.take_batch.Given as goal

abbrev pub invariant-loop-right : goal.invariant-loop-right
invariant-loop-right g l = record {
  taken : Given Gives g.T.Linked.element l.batch l.initial.right l.right;
  table : l.right.table ≡ l.initial.right.table;
  few : length l.batch ≤ l.fn.max;
}

abbrev pub decreases-loop-right : goal.decreases-loop-right
decreases-loop-right g l = l.fn.max - length l.batch
