use Rattle.std.proofs.Common.{sym, subst, ◌∙◌}
use Rattle.cordyceps_queue.specs.Shared.Calls.{Enqueues}
use Rattle.cordyceps_queue.proofs.SharedTheory.PoolCalls.{enqueues_now, enqueues_then}
use Rattle.cordyceps_queue.proofs.shared.calls.MpscQueue.try_enqueue.Goals.{else-rooms-eq0-via-then-rooms-eq0+else-refill_at_most-eq0, else-rooms-eq0-via-else-rooms-eq0}
use Rattle.cordyceps_queue.proofs.shared.calls.MpscQueue.try_enqueue.Goals as goal

pub returns-clause-answer : goal.returns-clause-answer
returns-clause-answer g c =
    let now = c.enqueue.new.party in
    elim c.else-rooms-eq0.branch [
      | else-rooms-eq0-via-then-rooms-eq0+else-refill_at_most-eq0 w ↦
          enqueues_then c.args.handle w.refill_at_most.result c.args.party.now w.refill_at_most.new.party now w.refill_at_most.ensures.answer (sym c.rooms.ensures.count ∙ w.if-rooms-eq0.true) (subst (λ u. Enqueues c.args.handle u now) w.party-is c.enqueue.ensures)
      | else-rooms-eq0-via-else-rooms-eq0 w ↦
          enqueues_now c.args.handle c.args.party.now now (subst (λ u. Enqueues c.args.handle u now) w.party-is c.enqueue.ensures)
    ]
