use Rattle.std.proofs.Common.{◌≡◌, ap, ◌∙◌, subst, rules}
use Rattle.cordyceps_queue.specs.Shared.Parts.{standing}
use Rattle.cordyceps_queue.specs.Shared.Calls.{TakesRight, FindsBusy}
use Rattle.cordyceps_queue.proofs.SharedTheory.RightHolds.{busy_seated, finds_busy, whole_busy, right_taken, takes_right}
use Rattle.cordyceps_queue.proofs.shared.consumer.take_right.Goals as goal

pub invariant_of-result : goal.invariant_of-result
invariant_of-result g c =
    let there : c.party.inside.seat.table_id ≡ c.args.words.now.table_id = search rules in
    busy_seated c.party.inside.seat.table_id c.take.new.seat.table_id c.args.words.now.table_id c.party.inside.seat.me c.take.new.seat.me _ c.party.invariant c.take.ensures.table there c.in_default.ensures.took

pub returns-in_default-clause-answer : goal.returns-in_default-clause-answer
returns-in_default-clause-answer g c =
    let t = finds_busy c.party.inside.seat.table_id c.take.new.seat.table_id c.args.words.now.table_id.slots c.party.inside.seat.me c.take.new.seat.me c.take.ensures.table c.in_default.ensures.took in
    subst (λ u. FindsBusy u (standing c.take.new.seat.table_id c.take.new.seat.me.0)) c.party.view_is t

pub returns-in_default-clause-whole : goal.returns-in_default-clause-whole
returns-in_default-clause-whole g c is =
    absurd (whole_busy c.party.inside.seat.table_id c.take.new.seat.table_id c.args.words.now.table_id.slots c.party.inside.seat.me c.take.new.seat.me _ c.party.invariant c.take.ensures.table c.in_default.ensures.took (ap (λ u. u.share) c.party.view_is ∙ is))

pub invariant_of-result-2 : goal.invariant_of-result-2
invariant_of-result-2 g c =
    let took = c.in-Some.ensures.took in
    let there : c.party.inside.seat.table_id ≡ c.args.words.now.table_id = search rules in
    (right_taken c.party.inside.seat.table_id c.take.new.seat.table_id c.args.words.now.table_id _ c.party.inside.seat.me c.take.new.seat.me _ c.party.invariant c.take.ensures.table there took.0, took.1)

pub returns-clause-answer : goal.returns-clause-answer
returns-clause-answer g c =
    let t = takes_right c.party.inside.seat.table_id c.take.new.seat.table_id c.args.words.now.table_id.slots _ c.party.inside.seat.me c.take.new.seat.me c.take.ensures.table c.in-Some.ensures.took.0 in
    subst (λ u. TakesRight u (standing c.take.new.seat.table_id c.take.new.seat.me.0)) c.party.view_is t
