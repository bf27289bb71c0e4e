use Rattle.std.proofs.Common.{◌≡◌, ap, ◌∙◌, subst, rules}
use Rattle.cordyceps_queue.specs.Shared.Parts.{standing}
use Rattle.cordyceps_queue.specs.Shared.Calls.{Refills}
use Rattle.cordyceps_queue.proofs.SharedTheory.PoolCalls.{refill_seated, refills, has_all}
use Rattle.cordyceps_queue.proofs.shared.calls.MpscQueue.refill.Goals as goal

pub invariant_of-party : goal.invariant_of-party
invariant_of-party g c =
    let e = c.refill.ensures in
    let there : c.party.inside.seat.table_id ≡ c.self.inside.rooms.shared.table_id = search rules in
    refill_seated _ _ c.self.inside.rooms.shared.table_id c.party.inside.seat.me c.refill.new.seat.me _ _ c.party.invariant e.table there e.refills.rests e.refills.sees e.tracks

pub returns-clause-answer : goal.returns-clause-answer
returns-clause-answer g c =
    let e = c.refill.ensures in
    subst (λ u. Refills c.refill.result u (standing c.refill.new.seat.table_id c.refill.new.seat.me.0)) c.party.view_is
    (refills c.party.inside.seat.table_id c.refill.new.seat.table_id _ _ c.refill.result c.party.inside.seat.me c.refill.new.seat.me c.party.invariant.rests e.table e.refills.rests e.refills.free e.refills.sees)

pub returns-clause-whole : goal.returns-clause-whole
returns-clause-whole g c is =
    let e = c.refill.ensures in
    let there : c.party.inside.seat.table_id ≡ c.self.inside.rooms.shared.table_id = search rules in
    has_all c.party.inside.seat.table_id c.refill.new.seat.table_id c.self.inside.rooms.shared.table_id c.refill.new.seat.me e.table there e.refills.rests (e.refills.all (ap (λ u. u.share) c.party.view_is ∙ is))
