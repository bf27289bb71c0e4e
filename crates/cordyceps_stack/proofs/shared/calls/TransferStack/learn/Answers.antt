use Rattle.std.proofs.Common.{subst}
use Rattle.cordyceps_stack.specs.Shared.Parts.{standing}
use Rattle.cordyceps_stack.specs.Shared.Receipts.{Learns}
use Rattle.cordyceps_stack.proofs.SharedTheory.ReceiptSeats.{heard_seated, learns_it}
use Rattle.cordyceps_stack.proofs.shared.calls.TransferStack.learn.Goals as goal

pub invariant_of-party : goal.invariant_of-party
invariant_of-party g c =
    let e = c.hear.ensures in
    heard_seated _ _ c.party.inside.seat.me c.receipt.inside.seat.me c.hear.new.seat.me _ c.party.invariant e.table e.heard

pub returns : goal.returns
returns g c =
    let e = c.hear.ensures in
    let w = standing c.hear.new.seat.table_id c.hear.new.seat.me.0 in
    let t = learns_it c.party.inside.seat.table_id c.hear.new.seat.table_id c.party.inside.seat.me c.receipt.inside.seat.me c.hear.new.seat.me e.table e.heard in
    subst (λ u. Learns c.args.receipt.told u w) c.party.view_is (subst (λ r. Learns r.told (standing c.party.inside.seat.table_id c.party.inside.seat.me.0) w) c.receipt.view_is t)
