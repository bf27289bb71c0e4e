use Rattle.std.proofs.Common.{subst}
use Rattle.cordyceps_queue.specs.Shared.Bell.{Sleeps}
use Rattle.cordyceps_queue.proofs.shared.owned_consumer.OwnedConsumer.sleep.Goals as goal

pub returns-clause-sleeps : goal.returns-clause-sleeps
returns-clause-sleeps g c = subst (λ o. Sleeps c.sleep.result o.party c.sleep.new.self) c.self.view_is c.sleep.ensures
