use Rattle.std.proofs.Common.{[], refl, subst}
use Rattle.cordyceps_queue.specs.Shared.Bell.{Sleeps}
use Rattle.cordyceps_queue.specs.Shared.Parts.{standing}
use Rattle.cordyceps_queue.proofs.SharedTheory.BellSeats.{hears_seated, hears_call}
use Rattle.cordyceps_queue.proofs.shared.calls.MpscQueue.sleep.Goals as goal

pub invariant_of-party : goal.invariant_of-party
invariant_of-party g c =
    let e = c.sleep.ensures in
    hears_seated _ _ c.party.inside.seat.me c.sleep.new.seat.me _ [] c.party.invariant e.table e.hears (λ q. (refl, refl))

pub returns : goal.returns
returns g c =
    let k = c.sleep.new.seat.me in
    let e = c.sleep.ensures in
    let h = hears_call c.party.inside.seat.table_id c.sleep.new.seat.table_id c.party.inside.seat.me k [] e.table e.hears in
    subst (λ u. Sleeps c.sleep.result u (standing c.sleep.new.seat.table_id k.0)) c.party.view_is (h.0, h.1, e.quiet)
