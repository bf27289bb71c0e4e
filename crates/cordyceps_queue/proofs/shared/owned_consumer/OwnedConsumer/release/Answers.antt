use Rattle.std.proofs.Common.{ap, subst}
use Rattle.cordyceps_queue.specs.Shared.Calls.{GivesRight}
use Rattle.cordyceps_queue.proofs.shared.owned_consumer.OwnedConsumer.release.Goals as goal

pub returns : goal.returns
returns g c = (ap (λ o. o.queue) c.self.view_is, subst (λ o. GivesRight o.party c.give_right-party.result) c.self.view_is c.give_right-party.ensures)
