use Rattle.std.proofs.Common.{◌≡◌, ◌∙◌, ap, subst}
use Rattle.std.specs.Prelude.{MatchResult}
use Rattle.cordyceps_stack.specs.Shared.Calls.{PushesAt, Misses}
use Rattle.cordyceps_stack.specs.Shared.Parts.{standing}
use Rattle.cordyceps_stack.proofs.SharedTheory.CallsHold.{tries_once, whole_pushes}
use Rattle.cordyceps_stack.proofs.shared.calls.TransferStack.try_push.Goals as goal

pub returns-clause-answer : goal.returns-clause-answer
returns-clause-answer g c =
    let e = c.try_push.ensures in
    let after = standing c.try_push.new.seat.table_id c.try_push.new.seat.me.0 in
    subst (λ u. MatchResult c.try_push.result (λ first. PushesAt 1 c.args.handle first u after) (λ back. (back ≡ c.args.handle) × Misses u after)) c.party.view_is
    (tries_once c.party.inside.seat.table_id c.try_push.new.seat.table_id c.try_push.result c.args.handle c.party.inside.seat.me c.try_push.new.seat.me e.answer e.table)

pub returns-clause-whole : goal.returns-clause-whole
returns-clause-whole g c is = whole_pushes c.try_push.result c.args.handle c.party.inside.seat.me c.try_push.new.seat.me c.try_push.ensures.answer (ap (λ u. u.share) c.party.view_is ∙ is)
