use Rattle.std.proofs.Common.{◌≡◌}
use Rattle.cordyceps_shared.specs.FreeChains.{leads}
use Rattle.cordyceps_stack.specs.Shared.View.{held_rooms}
use Rattle.cordyceps_stack.proofs.SharedTheory.PartsJoin.{Follows}
use Rattle.cordyceps_stack.proofs.shared.parting.skip_rooms.Given as goal

abbrev pub ghosts-hold : goal.ghosts-hold
ghosts-hold g a = record { rooms = a.rooms }

abbrev pub invariant-loop-room : goal.invariant-loop-room
invariant-loop-room g l =
    let held = l.initial.seat.me.0 in
    record {
      table : l.seat.table_id ≡ l.initial.seat.table_id;
      view_is : l.seat.me.0 ≡ held;
      follows : Follows l.at l.last l._room (held_rooms held.doing) (leads held.free.rooms held.free.end) l.seat.me;
    }
