use Rattle.std.proofs.Common.{List, map, ◌≡◌, ◌∙◌, ap, subst}
use Rattle.std.specs.Prelude.{MatchResult}
use Rattle.cordyceps_stack.specs.Shared.Calls.{PushesAllAt, Misses}
use Rattle.cordyceps_stack.specs.Shared.Parts.{standing}
use Rattle.cordyceps_stack.proofs.SharedTheory.CallsHold.{tries_all, whole_pushes_all}
use Rattle.cordyceps_stack.proofs.shared.calls.TransferStack.try_push_all.Goals as goal

pub returns-clause-answer : goal.returns-clause-answer
returns-clause-answer g c =
    let el = g.T.Linked.element in
    let els = c.args.elements in
    let e = c.try_push_all.ensures in
    let after = standing c.try_push_all.new.seat.table_id c.try_push_all.new.seat.me.0 in
    subst (λ u. MatchResult c.try_push_all.result (λ first. (pushed : List g.row.T-Handle.Denot) × (els ≡ map el pushed) × PushesAllAt 1 pushed first u after) (λ back. (back ≡ els) × Misses u after)) c.party.view_is
    (tries_all el els c.party.inside.seat.table_id c.try_push_all.new.seat.table_id c.try_push_all.result c.party.inside.seat.me c.try_push_all.new.seat.me e.answer e.table)

pub returns-clause-whole : goal.returns-clause-whole
returns-clause-whole g c is = whole_pushes_all g.T.Linked.element c.args.elements c.try_push_all.result c.party.inside.seat.me c.try_push_all.new.seat.me c.try_push_all.ensures.answer (ap (λ u. u.share) c.party.view_is ∙ is)
