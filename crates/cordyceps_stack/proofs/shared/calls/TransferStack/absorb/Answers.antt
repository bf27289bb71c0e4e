use Rattle.std.proofs.Common.{subst, rules}
use Rattle.cordyceps_shared.specs.Standings.{Absorbs}
use Rattle.cordyceps_stack.specs.Shared.Parts.{standing}
use Rattle.cordyceps_stack.specs.History.{Legal}
use Rattle.cordyceps_stack.proofs.SharedTheory.CallsHold.{absorbed_seated, absorbs}
use Rattle.cordyceps_stack.proofs.shared.calls.TransferStack.absorb.Goals as goal

pub invariant_of-party : goal.invariant_of-party
invariant_of-party g c =
    let e = c.absorb.ensures in
    absorbed_seated _ _ _ c.party.inside.seat.me c.other.inside.seat.me c.absorb.new.seat.me _ _ _ c.party.invariant c.other.invariant (search rules) e.table e.absorbed e.known e.tracks

pub returns : goal.returns
returns g c =
    let e = c.absorb.ensures in
    let after = standing c.absorb.new.seat.table_id c.absorb.new.seat.me.0 in
    let t = absorbs c.party.inside.seat.table_id c.other.inside.seat.table_id c.absorb.new.seat.table_id c.party.inside.seat.me c.other.inside.seat.me c.absorb.new.seat.me e.table e.absorbed e.known in
    subst (λ u. Absorbs (λ h. Legal h) u c.args.other after) c.party.view_is (subst (λ o. Absorbs (λ h. Legal h) (standing c.party.inside.seat.table_id c.party.inside.seat.me.0) o after) c.other.view_is t)
