use Rattle.std.proofs.Common.{rules, subst}
use Rattle.cordyceps_shared.specs.Standings.{Knows}
use Rattle.cordyceps_stack.specs.History.{Legal}
use Rattle.cordyceps_stack.proofs.shared.calls.Party.rooms.Goals as goal

pub returns-clause-count : goal.returns-clause-count
returns-clause-count g c = search rules

pub returns-clause-knows : goal.returns-clause-knows
returns-clause-knows g c = let i = c.self.invariant in subst (Knows (λ h. Legal h)) c.self.view_is record { legal = i.legal; alone = i.alone; share = i.share }
