use Rattle.std.proofs.Common.{◌≡◌, refl, subst, rules}
use Rattle.cordyceps_queue.specs.Shared.Parts.{standing}
use Rattle.cordyceps_queue.specs.Shared.Calls.{Enqueues}
use Rattle.cordyceps_queue.proofs.SharedTheory.CallsHold.{seated_after, enqueues}
use Rattle.cordyceps_queue.proofs.shared.calls.MpscQueue.enqueue.Goals as goal

pub invariant_of-party : goal.invariant_of-party
invariant_of-party g c =
    let e = c.enqueue.ensures in
    let there : c.party.inside.seat.table_id ≡ c.self.inside.rooms.shared.table_id = search rules in
    seated_after _ _ c.self.inside.rooms.shared.table_id c.party.inside.seat.me c.enqueue.new.seat.me _ _ _ c.party.invariant e.table there e.rest e.tracks e.sees (λ q. (refl, refl))

pub returns : goal.returns
returns g c =
    let e = c.enqueue.ensures in
    let t = enqueues c.party.inside.seat.table_id c.enqueue.new.seat.table_id c.party.inside.seat.me
    c.enqueue.new.seat.me c.args.handle c.party.invariant.rests.back e.rest.back e.table e.free e.sees in
    subst (λ u. Enqueues c.args.handle u (standing c.enqueue.new.seat.table_id c.enqueue.new.seat.me.0)) c.party.view_is t
