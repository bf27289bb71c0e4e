use Rattle.std.proofs.Common.{◌≡◌, ◌+◌, suc, ◌∷◌, ◌++◌, map, length}
use Rattle.cordyceps_shared.specs.FreeChains.{leads}
use Rattle.cordyceps_stack.specs.Shared.Plays.{elements_then}
use Rattle.cordyceps_stack.specs.Shared.View.{held_rooms}
use Rattle.cordyceps_stack.proofs.SharedTheory.ChainJoins.{Fills}
use Rattle.cordyceps_stack.proofs.shared.chain.fill.Given as goal

abbrev pub ghosts-hold : goal.ghosts-hold
ghosts-hold g a = record { rooms = suc (length a._others.now) }

abbrev pub invariant-loop-handle : goal.invariant-loop-handle
invariant-loop-handle g l =
    let held = l.initial.seat.me.0 in
    record {
      table : l.seat.table_id ≡ l.initial.seat.table_id;
      view_is : l.seat.me.0 ≡ held;
      count_is : l.count + length l.others ≡ suc (length l.initial.others);
      fills : Fills l.last l.next (held_rooms held.doing) (leads held.free.rooms held.free.end) l.seat.me;
      left : length fills.left ≡ length l.others;
      elements : map g.T.Linked.element (elements_then fills.done fills.x) ++ l.others ≡ g.T.Linked.element l.fn.handle ∷ l.initial.others;
    }

abbrev pub decreases-loop-handle : goal.decreases-loop-handle
decreases-loop-handle g l = length l.others
