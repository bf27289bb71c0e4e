use Rattle.std.proofs.Common.{◌≡◌}
use Rattle.cordyceps_stack.specs.Shared.Plays.{IsReady}
use Rattle.cordyceps_stack.proofs.SharedTheory.PartsJoin.{Tried}
use Rattle.cordyceps_stack.proofs.shared.steps.settle_at_last.Given as goal

abbrev pub invariant-loop : goal.invariant-loop
invariant-loop g l = record {
  iterator : (goal.iterator-loop g).can_next l.iterator' × (goal.iterator-loop g).is_finite l.iterator';
  table : l.seat.table_id ≡ l.initial.seat.table_id;
  ready : (x : g.row.E.Denot) → IsReady l.initial.words.table_id.slots l.initial.room x l.initial.seat.me → IsReady l.initial.words.table_id.slots l.initial.room x l.seat.me;
  free : l.seat.me.0.free ≡ l.initial.seat.me.0.free;
  tried : Tried l.initial.seat.me.0 l.seat.me.0;
}
