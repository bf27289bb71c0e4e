use Rattle.std.proofs.Common.{subst}
use Rattle.cordyceps_queue.specs.Shared.Bell.{ClearsBell}
use Rattle.cordyceps_queue.proofs.shared.owned_consumer.OwnedConsumer.clear_bell.Goals as goal

pub returns-clause-clears : goal.returns-clause-clears
returns-clause-clears g c = subst (λ o. ClearsBell o.party c.clear_bell.new.self) c.self.view_is c.clear_bell.ensures
