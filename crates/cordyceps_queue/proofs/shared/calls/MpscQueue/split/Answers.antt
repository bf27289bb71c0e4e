use Rattle.cordyceps_queue.proofs.SharedTheory.PartySeats.{kept_seated, given_seated}
use Rattle.cordyceps_queue.proofs.shared.calls.MpscQueue.split.Goals as goal

pub invariant_of-party : goal.invariant_of-party
invariant_of-party g c =
    let e = c.split-seat.ensures in kept_seated _ _ c.args.rooms c.party.inside.seat.me c.split-seat.new.seat.me _ _ c.party.invariant e.table.0 e.views.0 e.tracks.0

pub invariant_of-result : goal.invariant_of-result
invariant_of-result g c =
    let e = c.split-seat.ensures in given_seated _ _ c.args.rooms c.party.inside.seat.me c.split-seat.result.0.me _ _ c.party.invariant e.table.1 e.views.1 e.tracks.1
