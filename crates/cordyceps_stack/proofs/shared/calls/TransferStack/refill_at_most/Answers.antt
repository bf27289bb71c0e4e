use Rattle.std.proofs.Common.{◌≡◌, ap, ◌∙◌, subst, rules}
use Rattle.atomic_table.specs.Seated.{TableId}
use Rattle.cordyceps_stack.specs.Shared.Calls.{Refills}
use Rattle.cordyceps_stack.specs.Shared.Parts.{standing}
use Rattle.cordyceps_stack.specs.Shared.Plays.{IsResting}
use Rattle.cordyceps_stack.proofs.SharedTheory.CallsHold.{refilled_seated, refills, has_all}
use Rattle.cordyceps_stack.proofs.shared.calls.TransferStack.refill_at_most.Goals as goal

pub invariant_of-party : goal.invariant_of-party
invariant_of-party g c =
    let e = c.refill_at_most.ensures in
    let same : c.self.inside.rooms.shared.table_id ≡ c.party.inside.seat.table_id = search rules in
    refilled_seated _ _ c.party.inside.seat.me c.refill_at_most.new.seat.me _ _ c.party.invariant e.table (subst (λ (z : TableId). IsResting z.slots c.refill_at_most.new.seat.me) same e.refills.rests) e.refills.sees e.tracks

pub returns-clause-answer : goal.returns-clause-answer
returns-clause-answer g c =
    let e = c.refill_at_most.ensures in
    let m = c.party.inside.seat.me in
    let k = c.refill_at_most.new.seat.me in
    subst (λ u. Refills c.refill_at_most.result u (standing c.refill_at_most.new.seat.table_id k.0)) c.party.view_is
    (refills c.party.inside.seat.table_id c.refill_at_most.new.seat.table_id c.refill_at_most.result m k e.refills.free e.refills.sees e.table)

pub returns-clause-few : goal.returns-clause-few
returns-clause-few g c is = c.refill_at_most.ensures.refills.few (ap (λ u. u.share) c.party.view_is ∙ is)

pub returns-clause-whole : goal.returns-clause-whole
returns-clause-whole g c is less =
    let e = c.refill_at_most.ensures in
    let same : c.self.inside.rooms.shared.table_id ≡ c.party.inside.seat.table_id = search rules in
    has_all c.party.inside.seat.table_id c.refill_at_most.new.seat.table_id c.refill_at_most.new.seat.me e.table (e.refills.all (ap (λ u. u.share) c.party.view_is ∙ is) less ∙ ap (λ (z : TableId). z.slots) same)
