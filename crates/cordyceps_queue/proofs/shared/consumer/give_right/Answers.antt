use Rattle.std.proofs.Common.{ap, ◌∙◌, subst}
use Rattle.cordyceps_queue.specs.Shared.Parts.{standing}
use Rattle.cordyceps_queue.specs.Shared.Plays.{IsHolding}
use Rattle.cordyceps_queue.specs.Shared.Rule.{IsTable}
use Rattle.cordyceps_queue.specs.Shared.Calls.{GivesRight}
use Rattle.cordyceps_queue.proofs.SharedTheory.RightHolds.{right_given, gives_right}
use Rattle.cordyceps_queue.proofs.shared.consumer.give_right.Goals as goal

pub give-requires-clause-table : goal.give-requires-clause-table
give-requires-clause-table g c =
    let there = ap (λ u. u.table) c.right.view_is ∙ c.requires in (there, subst (λ z. IsTable z) there c.right.invariant.0.table)

pub give-requires-clause-holding : goal.give-requires-clause-holding
give-requires-clause-holding g c =
    subst (λ z. IsHolding z.slots c.right.inside.tail.room c.right.inside.seat.me) (ap (λ u. u.table) c.right.view_is ∙ c.requires) c.right.invariant.0.holds

pub invariant_of-result : goal.invariant_of-result
invariant_of-result g c =
    let e = c.give.ensures in
    let there = ap (λ u. u.table) c.right.view_is ∙ c.requires in
    right_given c.right.inside.seat.table_id c.give.new.seat.table_id c.args.words.now.table_id _ c.right.inside.seat.me c.give.new.seat.me _ c.right.invariant.0 e.table there e.rest e.answer

pub returns : goal.returns
returns g c =
    let e = c.give.ensures in
    let t = gives_right c.right.inside.seat.table_id c.give.new.seat.table_id c.right.inside.seat.me c.give.new.seat.me e.table e.answer in
    subst (λ u. GivesRight u (standing c.give.new.seat.table_id c.give.new.seat.me.0)) c.right.view_is t

pub give-requires-clause-knows : goal.give-requires-clause-knows
give-requires-clause-knows g c = c.right.invariant.1
