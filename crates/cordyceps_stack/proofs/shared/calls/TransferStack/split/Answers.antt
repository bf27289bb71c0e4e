use Rattle.cordyceps_stack.proofs.SharedTheory.CallsHold.{kept_seated, given_seated}
use Rattle.cordyceps_stack.proofs.shared.calls.TransferStack.split.Goals as goal

pub invariant_of-party : goal.invariant_of-party
invariant_of-party g c =
    kept_seated _ _ c.args.rooms c.party.inside.seat.me c.split-seat.new.seat.me _ _ c.party.invariant c.split-seat.ensures.table.0 c.split-seat.ensures.views.0 c.split-seat.ensures.tracks.0

pub invariant_of-result : goal.invariant_of-result
invariant_of-result g c =
    given_seated _ _ c.args.rooms c.party.inside.seat.me c.split-seat.result.0.me _ _ c.party.invariant c.split-seat.ensures.table.1 c.split-seat.ensures.views.1 c.split-seat.ensures.tracks.1
