use Rattle.std.proofs.Common.{◌≡◌, ◌≤◌, [], length}
use Rattle.cordyceps_shared.specs.FreeChains.{Tracks}
use Rattle.cordyceps_stack.specs.Shared.Plays.{IsResting, Sees}
use Rattle.cordyceps_stack.proofs.shared.pool.refill_again.Given as goal

abbrev pub invariant-loop-try : goal.invariant-loop-try
invariant-loop-try g l = record {
  table : l.seat.table_id ≡ l.initial.seat.table_id;
  rests : IsResting l.words.table_id.slots l.seat.me;
  sees : Sees l.initial.seat.me.0 [] l.seat.me.0;
  more : l.had ≤ length l.seat.me.0.free.rooms;
  tracks : Tracks l.free l.seat.me.0.free;
}
