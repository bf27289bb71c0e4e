use Rattle.std.proofs.Common.{refl}
use Rattle.cordyceps_stack.proofs.SharedTheory.CallsHold.{new_seated, new_standing}
use Rattle.cordyceps_stack.proofs.shared.calls.TransferStack.new.Goals as goal

pub invariant_of-result-2 : goal.invariant_of-result-2
invariant_of-result-2 g c =
    let (table, slots, me) = c.in_ok-rooms.ensures in
    new_seated _ _ c.args.rooms c.in_ok-rooms.seat.me _ table slots me refl

pub returns : goal.returns
returns g c =
    let (table, slots, me) = c.in_ok-rooms.ensures in
    (new_standing _ _ c.args.rooms c.in_ok-rooms.seat.me table.0 me, slots)
