use Rattle.std.proofs.Common.{◌≡◌, Some, subst}
use Rattle.cordyceps_shared.specs.Histories.{plain}
use Rattle.cordyceps_shared.specs.Standings.{Knows, name_of}
use Rattle.cordyceps_queue.specs.History.{holder}
use Rattle.cordyceps_queue.specs.Shared.Calls.{Legal, NonePending}
use Rattle.cordyceps_queue.proofs.shared.consumer.Right.rooms.Goals as goal

pub returns-clause-knows : goal.returns-clause-knows
returns-clause-knows g c = let i = c.self.invariant.0 in subst (Knows (λ h. Legal h)) c.self.view_is record { legal = i.legal; alone = i.alone; share = i.share }

pub returns-clause-linked : goal.returns-clause-linked
returns-clause-linked g c = subst (λ u. NonePending u.share (plain u.seen)) c.self.view_is c.self.invariant.0.linked

pub returns-clause-held : goal.returns-clause-held
returns-clause-held g c = subst (λ u. holder (plain u.seen) ≡ Some (name_of u)) c.self.view_is c.self.invariant.0.held
