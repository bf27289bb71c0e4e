use Rattle.std.proofs.Common.{◌∙◌}
use Rattle.cordyceps_stack.specs.Shared.Telling.{IsReceipt, receipt_of}
use Rattle.cordyceps_stack.proofs.SharedTheory.ReceiptSeats.{same_seat, is_receipt, tells_seen}
use Rattle.cordyceps_stack.proofs.shared.calls.TransferStack.copy_receipt.Goals as goal

pub invariant_of-receipt : goal.invariant_of-receipt
invariant_of-receipt g c =
    let e = c.tell-seat.ensures in
    same_seat (λ z m. IsReceipt z m) _ _ c.receipt.inside.seat.me c.tell-seat.new.seat.me c.receipt.invariant e.table.0 e.views.0

pub invariant_of-result : goal.invariant_of-result
invariant_of-result g c =
    let e = c.tell-seat.ensures in
    is_receipt _ _ c.receipt.inside.seat.me c.tell-seat.result.me c.receipt.invariant.table e.table.1 e.views.1

pub returns : goal.returns
returns g c =
    let e = c.tell-seat.ensures in
    let told = tells_seen c.receipt.inside.seat.me c.tell-seat.result.me e.views.1 in (
      (λ i. receipt_of (e.table.0 i) (e.views.0 i).0) ∙ c.receipt.view_is,
      (λ i. record { table = e.table.1 i; told = told i }) ∙ c.receipt.view_is,
    )
