use Rattle.std.proofs.Common.{◌++◌, length, sym, ap, ◌∙◌, subst}
use Rattle.cordyceps_shared.specs.Histories.{plain}
use Rattle.cordyceps_shared.specs.Standings.{Knows}
use Rattle.cordyceps_queue.specs.Shared.Calls.{Legal, NonePending, NoneHolds}
use Rattle.cordyceps_queue.proofs.shared.calls.Party.rooms.Goals as goal

pub returns-clause-count : goal.returns-clause-count
returns-clause-count g c =
    let m = c.self.inside.seat.me.0 in
    c.self.invariant.tracks.tracks.count ∙ (sym (ap (λ back. length (back ++ m.free)) c.self.invariant.rests.back)
    ∙ ap (λ u. u.rooms) c.self.view_is)

pub returns-clause-knows : goal.returns-clause-knows
returns-clause-knows g c = let i = c.self.invariant in subst (Knows (λ h. Legal h)) c.self.view_is record { legal = i.legal; alone = i.alone; share = i.share }

pub returns-clause-linked : goal.returns-clause-linked
returns-clause-linked g c = subst (λ u. NonePending u.share (plain u.seen)) c.self.view_is c.self.invariant.linked

pub returns-clause-unheld : goal.returns-clause-unheld
returns-clause-unheld g c = subst (λ u. NoneHolds u.share (plain u.seen)) c.self.view_is c.self.invariant.unheld
