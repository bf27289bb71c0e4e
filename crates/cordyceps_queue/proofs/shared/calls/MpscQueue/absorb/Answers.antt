use Rattle.std.proofs.Common.{◌≡◌, subst, rules}
use Rattle.cordyceps_shared.specs.Standings.{Absorbs}
use Rattle.cordyceps_queue.specs.Shared.Parts.{standing}
use Rattle.cordyceps_queue.specs.Shared.Calls.{Legal}
use Rattle.cordyceps_queue.proofs.SharedTheory.PartySeats.{absorbed_seated, absorbs}
use Rattle.cordyceps_queue.proofs.shared.calls.MpscQueue.absorb.Goals as goal

pub invariant_of-party : goal.invariant_of-party
invariant_of-party g c =
    let e = c.absorb.ensures in
    let same : c.other.inside.seat.table_id ≡ c.party.inside.seat.table_id = search rules in
    absorbed_seated _ _ _ c.party.inside.seat.me c.other.inside.seat.me c.absorb.new.seat.me _ _ _ c.party.invariant c.other.invariant same e.table e.absorbed e.known e.linked e.unheld e.tracks

pub returns : goal.returns
returns g c =
    let e = c.absorb.ensures in
    let after = standing c.absorb.new.seat.table_id c.absorb.new.seat.me.0 in
    let t = absorbs c.party.inside.seat.table_id c.other.inside.seat.table_id c.absorb.new.seat.table_id
    c.party.inside.seat.me c.other.inside.seat.me c.absorb.new.seat.me c.party.invariant.rests.back
    c.other.invariant.rests.back e.table e.absorbed e.known in
    subst (λ u. Absorbs (λ h. Legal h) u c.args.other after) c.party.view_is (subst (λ o. Absorbs (λ h. Legal h) (standing c.party.inside.seat.table_id c.party.inside.seat.me.0) o after) c.other.view_is t)
