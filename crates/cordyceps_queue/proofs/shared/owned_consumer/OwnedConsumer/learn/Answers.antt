use Rattle.std.proofs.Common.{subst}
use Rattle.cordyceps_queue.specs.Shared.Receipts.{Learns}
use Rattle.cordyceps_queue.proofs.shared.owned_consumer.OwnedConsumer.learn.Goals as goal

pub returns-clause-learns : goal.returns-clause-learns
returns-clause-learns g c =
    subst (λ o. Learns c.args.receipt.told o.party c.learn.new.self) c.self.view_is
    (subst (λ r. Learns r.told c.self.inside.right c.learn.new.self) c.receipt.view_is c.learn.ensures)
