use Rattle.std.proofs.Common.{ap, ◌∙◌}
use Rattle.cordyceps_shared.specs.Histories.{plain}
use Rattle.cordyceps_queue.specs.Shared.Parts.{IsConsuming, standing}
use Rattle.cordyceps_queue.specs.Shared.Uses.{HasUse}
use Rattle.cordyceps_queue.proofs.SharedTheory.ReceiptSeats.{same_seat, is_receipt, tells_seen}
use Rattle.cordyceps_queue.proofs.shared.consumer.Right.receipt.Goals as goal

pub invariant_of-self : goal.invariant_of-self
invariant_of-self g c =
    let e = c.tell.ensures in
    same_seat (λ z m. IsConsuming z c.self.inside.tail.room m c.self.inside.spare × HasUse m c.self.inside.tail) _ _ c.self.inside.seat.me c.tell.new.seat.me c.self.invariant e.table.0 e.views.0

pub returns-clause-party : goal.returns-clause-party
returns-clause-party g c =
    let e = c.tell.ensures in
    (λ i. standing (e.table.0 i) (e.views.0 i).0) ∙ c.self.view_is

pub returns-clause-receipt : goal.returns-clause-receipt
returns-clause-receipt g c =
    let e = c.tell.ensures in
    let there = e.table.1 ∙ (ap (λ u. u.table) c.self.view_is ∙ c.requires) in
    (is_receipt _ _ c.self.inside.seat.me c.tell.result.me c.self.invariant.0.table e.table.1 e.views.1, there)

pub returns-clause-told : goal.returns-clause-told
returns-clause-told g c =
    let e = c.tell.ensures in
    tells_seen c.self.inside.seat.me c.tell.result.me e.views.1 ∙ ap (λ u. plain u.seen) c.self.view_is
