use Rattle.std.proofs.Common.{◌≡◌, ℕ, List}
use Rattle.cordyceps_stack.specs.Shared.Plays.{IsReadyAll}
use Rattle.cordyceps_stack.proofs.SharedTheory.PartsJoin.{Tried}
use Rattle.cordyceps_stack.proofs.shared.chain.settle_at_last.Given as goal

abbrev pub invariant-loop : goal.invariant-loop
invariant-loop g l = record {
  iterator : (goal.iterator-loop g).can_next l.iterator' × (goal.iterator-loop g).is_finite l.iterator';
  table : l.seat.table_id ≡ l.initial.seat.table_id;
  ready : (before : List (ℕ × g.row.E.Denot)) (x : g.row.E.Denot) → IsReadyAll l.initial.words.table_id.slots l.initial.first before l.initial.last x l.initial.seat.me → IsReadyAll l.initial.words.table_id.slots l.initial.first before l.initial.last x l.seat.me;
  free : l.seat.me.0.free ≡ l.initial.seat.me.0.free;
  tried : Tried l.initial.seat.me.0 l.seat.me.0;
}
