use Rattle.std.proofs.Common.{ap, ◌∙◌, rules}
use Rattle.cordyceps_shared.specs.Histories.{plain}
use Rattle.cordyceps_stack.specs.Shared.Parts.{IsSeated, standing}
use Rattle.cordyceps_stack.proofs.SharedTheory.ReceiptSeats.{same_seat, is_receipt, tells_seen}
use Rattle.cordyceps_stack.proofs.shared.calls.TransferStack.receipt.Goals as goal

pub invariant_of-party : goal.invariant_of-party
invariant_of-party g c =
    let e = c.tell-seat.ensures in
    same_seat (λ z m. IsSeated z m c.party.inside.free) _ _ c.party.inside.seat.me c.tell-seat.new.seat.me c.party.invariant e.table.0 e.views.0

pub invariant_of-result : goal.invariant_of-result
invariant_of-result g c =
    let e = c.tell-seat.ensures in
    is_receipt _ _ c.party.inside.seat.me c.tell-seat.result.me c.party.invariant.table e.table.1 e.views.1

pub returns-clause-party : goal.returns-clause-party
returns-clause-party g c =
    let e = c.tell-seat.ensures in
    (λ i. standing (e.table.0 i) (e.views.0 i).0) ∙ c.party.view_is

pub returns-clause-receipt : goal.returns-clause-receipt
returns-clause-receipt g c =
    let e = c.tell-seat.ensures in
    (search rules, tells_seen c.party.inside.seat.me c.tell-seat.result.me e.views.1 ∙ ap (λ u. plain u.seen) c.party.view_is)
