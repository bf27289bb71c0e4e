use Rattle.std.proofs.Common.{[], ◌∷◌, refl, subst}
use Rattle.cordyceps_queue.specs.History.{Clear}
use Rattle.cordyceps_queue.specs.Shared.Bell.{ClearsBell}
use Rattle.cordyceps_queue.specs.Shared.Parts.{standing}
use Rattle.cordyceps_queue.specs.Shared.View.{name}
use Rattle.cordyceps_queue.proofs.SharedTheory.BellSeats.{hears_seated, hears_call}
use Rattle.cordyceps_queue.proofs.shared.calls.MpscQueue.clear_bell.Goals as goal

pub invariant_of-party : goal.invariant_of-party
invariant_of-party g c =
    let m = c.party.inside.seat.me in
    let e = c.clear.ensures in
    hears_seated _ _ m c.clear.new.seat.me _ (Clear (name m.0) ∷ []) c.party.invariant e.table e.hears (λ q. (refl, refl))

pub returns : goal.returns
returns g c =
    let m = c.party.inside.seat.me in
    let k = c.clear.new.seat.me in
    let e = c.clear.ensures in
    subst (λ u. ClearsBell u (standing c.clear.new.seat.table_id k.0)) c.party.view_is (hears_call c.party.inside.seat.table_id c.clear.new.seat.table_id m k (Clear (name m.0) ∷ []) e.table e.hears)
