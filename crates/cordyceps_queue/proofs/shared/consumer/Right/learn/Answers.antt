use Rattle.std.proofs.Common.{◌≡◌, ap, ◌∙◌, subst}
use Rattle.cordyceps_shared.specs.Histories.{plain}
use Rattle.cordyceps_queue.specs.Shared.Parts.{standing}
use Rattle.cordyceps_queue.specs.Shared.Receipts.{Learns}
use Rattle.cordyceps_queue.specs.Shared.Rule.{IsTable}
use Rattle.cordyceps_queue.proofs.SharedTheory.ReceiptSeats.{heard_consuming, heard_use, learns_it}
use Rattle.cordyceps_queue.proofs.shared.consumer.Right.learn.Goals as goal

pub invariant_of-self : goal.invariant_of-self
invariant_of-self g c =
    let e = c.hear.ensures in (
      heard_consuming _ _ _ c.self.inside.seat.me c.args.receipt.me c.hear.new.seat.me _ c.self.invariant.0 e.table e.heard,
      heard_use c.self.inside.seat.me c.args.receipt.me c.hear.new.seat.me c.self.inside.tail e.heard c.self.invariant.1,
    )

pub returns : goal.returns
returns g c =
    let e = c.hear.ensures in
    let w = standing c.hear.new.seat.table_id c.hear.new.seat.me.0 in
    let t = learns_it c.self.inside.seat.table_id c.hear.new.seat.table_id c.self.inside.seat.me c.args.receipt.me c.hear.new.seat.me e.table e.heard in
    subst (λ u. Learns (plain c.args.receipt.me.0.known.seen) u w) c.self.view_is t

pub hear-requires-clause-table : goal.hear-requires-clause-table
hear-requires-clause-table g c =
    let there : c.self.inside.seat.table_id ≡ c.args.words.now.table_id = ap (λ u. u.table) c.self.view_is ∙ c.requires.table in
    ((there, subst (λ z. IsTable z) there c.self.invariant.0.table), (c.requires.receipt.1, subst (λ z. IsTable z) c.requires.receipt.1 c.requires.receipt.0.table))

pub hear-requires-clause-named : goal.hear-requires-clause-named
hear-requires-clause-named g c = c.self.invariant.0.holds.right.named

pub hear-requires-clause-bare : goal.hear-requires-clause-bare
hear-requires-clause-bare g c = (c.requires.receipt.0.share, c.requires.receipt.0.hand)
