use Rattle.std.proofs.Common.{ap, ◌∙◌, subst}
use Rattle.cordyceps_queue.specs.Shared.Calls.{Consumes}
use Rattle.cordyceps_queue.proofs.shared.owned_consumer.OwnedConsumer.try_dequeue.Goals as goal

pub returns-clause-answer : goal.returns-clause-answer
returns-clause-answer g c = subst (λ o. Consumes c.try_once.result o.party c.try_once.new.self) c.self.view_is c.try_once.ensures.answer

pub returns-clause-whole : goal.returns-clause-whole
returns-clause-whole g c is = c.try_once.ensures.whole (ap (λ o. o.party.share) c.self.view_is ∙ is)
