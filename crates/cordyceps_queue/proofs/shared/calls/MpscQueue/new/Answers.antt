use Rattle.std.proofs.Common.{refl}
use Rattle.cordyceps_queue.proofs.SharedTheory.PartySeats.{new_seated, new_standing, capacity_is}
use Rattle.cordyceps_queue.proofs.shared.calls.MpscQueue.new.Goals as goal

pub invariant_of-result-2 : goal.invariant_of-result-2
invariant_of-result-2 g c =
    let (me, table, slots) = c.in_ok-rooms.ensures in new_seated _ _ c.args.rooms c.in_ok-rooms.seat.me _ me.0 me.1 table slots refl

pub returns : goal.returns
returns g c =
    let (me, table, slots) = c.in_ok-rooms.ensures in
    (refl, new_standing _ _ c.args.rooms c.in_ok-rooms.seat.me me.0 slots, capacity_is c.in_ok-rooms.rooms.shared.table_id c.args.rooms table)
