use Rattle.std.proofs.Common.{not, eqb, ◌≡◌, ◌-◌, map, length}
use Rattle.cordyceps_stack.specs.Cores.Stages.{room_elements}
use Rattle.cordyceps_stack.specs.Shared.Plays.{to_hand_out}
use Rattle.cordyceps_stack.specs.Shared.Batches.{in_order}
use Rattle.cordyceps_stack.proofs.SharedTheory.Batching.{filled_up}
use Rattle.cordyceps_stack.proofs.SharedTheory.PartsJoin.{HandsOut}
use Rattle.cordyceps_stack.proofs.shared.batch.hand_out.Given as goal

abbrev pub invariant-loop-at : goal.invariant-loop-at
invariant-loop-at g l =
    let all = to_hand_out l.initial.seat.me.0.doing in
    (l.seat.table_id ≡ l.initial.seat.table_id)
    × ((h : HandsOut l.at l.after l.last l.count all l.initial.seat.me l.seat.me)
    × (filled_up (not (eqb g.row.OLDEST_FIRST 0)) l.batch (map g.T.Linked.element (room_elements h.left)) ≡ in_order (not (eqb g.row.OLDEST_FIRST 0)) (map g.T.Linked.element (room_elements all))))

abbrev pub decreases-loop-at : goal.decreases-loop-at
decreases-loop-at g l = length (to_hand_out l.initial.seat.me.0.doing) - l.count
