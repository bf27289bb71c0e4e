use Rattle.std.proofs.Common.{◌≡◌, Some, ap, ◌∙◌, subst}
use Rattle.cordyceps_shared.specs.Histories.{plain}
use Rattle.cordyceps_shared.specs.Standings.{Knows, name_of}
use Rattle.cordyceps_queue.specs.History.{holder}
use Rattle.cordyceps_queue.specs.Shared.Calls.{Legal, NonePending}
use Rattle.cordyceps_queue.proofs.shared.owned_consumer.OwnedConsumer.rooms.Goals as goal

pub returns-clause-count : goal.returns-clause-count
returns-clause-count g c = c.rooms.ensures.count ∙ ap (λ o. o.party.rooms) c.self.view_is

pub returns-clause-knows : goal.returns-clause-knows
returns-clause-knows g c = subst (λ o. Knows (λ h. Legal h) o.party) c.self.view_is c.rooms.ensures.knows

pub returns-clause-linked : goal.returns-clause-linked
returns-clause-linked g c = subst (λ o. NonePending o.party.share (plain o.party.seen)) c.self.view_is c.rooms.ensures.linked

pub returns-clause-held : goal.returns-clause-held
returns-clause-held g c = subst (λ o. holder (plain o.party.seen) ≡ Some (name_of o.party)) c.self.view_is c.rooms.ensures.held
