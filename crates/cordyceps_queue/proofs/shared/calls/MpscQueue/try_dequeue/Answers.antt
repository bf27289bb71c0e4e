use Rattle.std.proofs.Common.{◌≡◌, ap, ◌∙◌, subst, rules}
use Rattle.std.specs.Prelude.{Some, Ok, Err}
use Rattle.cordyceps_queue.specs.declared.cores.steps.TryDequeueError.TheVariants as error
use Rattle.cordyceps_queue.specs.Shared.Parts.{standing, Dequeued}
use Rattle.cordyceps_queue.specs.Shared.Calls.{Dequeues}
use Rattle.cordyceps_queue.proofs.SharedTheory.CallsHold.{seated_then, finds_one, finds_empty, finds_blocked, finds_busy, whole_right, whole_clear}
use Rattle.cordyceps_queue.proofs.shared.calls.MpscQueue.try_dequeue.Goals.{in-Some-Out, in-Some-Empty, in-Some-Inconsistent, in-None}
use Rattle.cordyceps_queue.proofs.shared.calls.MpscQueue.try_dequeue.Goals as goal

pub invariant_of-party : goal.invariant_of-party
invariant_of-party g c =
    let e = c.try_dequeue.ensures in
    let there : c.party.inside.seat.table_id ≡ c.self.inside.rooms.shared.table_id = search rules in
    seated_then c.party.inside.seat.table_id c.try_dequeue.new.seat.table_id c.self.inside.rooms.shared.table_id c.party.inside.seat.me c.try_dequeue.new.seat.me _ _ c.try_dequeue.result c.party.invariant e.table there e.rest e.answer e.tracks

pub returns-clause-answer : goal.returns-clause-answer
returns-clause-answer g c =
    let e = c.try_dequeue.ensures in
    let z = c.party.inside.seat.table_id in
    let m = c.party.inside.seat.me in
    let z' = c.try_dequeue.new.seat.table_id in
    let k = c.try_dequeue.new.seat.me in
    let slots = c.self.inside.rooms.shared.table_id.slots in
    let bare = c.party.invariant.rests.back in
    elim c.match-try_dequeue.branch [
      | in-Some-Out w ↦
          let d = subst (λ r. Dequeued slots m k r) (w.in-Some-Out.is ∙ ap Some w.in-Some-Out.field-0-is) e.answer in
          rw w.result-is (subst (λ u. Dequeues (Ok w.in-Some-Out.item) u (standing z' k.0)) c.party.view_is
          (finds_one z z' slots _ m k _ bare e.rest.back e.table d))
      | in-Some-Empty w ↦
          let d = subst (λ r. Dequeued slots m k r) (w.in-Some-Empty.is ∙ ap Some w.in-Some-Empty.field-0-is) e.answer in
          rw w.result-is (subst (λ u. Dequeues (Err error.Empty) u (standing z' k.0)) c.party.view_is
          (finds_empty z z' slots m k bare e.rest.back e.table d))
      | in-Some-Inconsistent w ↦
          let d = subst (λ r. Dequeued slots m k r) (w.in-Some-Inconsistent.is ∙ ap Some w.in-Some-Inconsistent.field-0-is) e.answer in
          rw w.result-is (subst (λ u. Dequeues (Err error.Inconsistent) u (standing z' k.0)) c.party.view_is
          (finds_blocked z z' slots m k bare e.rest.back e.table d))
      | in-None w ↦
          let d = subst (λ r. Dequeued slots m k r) w.in-None.is e.answer in
          rw w.result-is (subst (λ u. Dequeues (Err error.Busy) u (standing z' k.0)) c.party.view_is
          (finds_busy z z' slots m k bare e.rest.back e.table d))
    ]

pub returns-clause-whole : goal.returns-clause-whole
returns-clause-whole g c is =
    let e = c.try_dequeue.ensures in
    let z = c.party.inside.seat.table_id in
    let m = c.party.inside.seat.me in
    let z' = c.try_dequeue.new.seat.table_id in
    let k = c.try_dequeue.new.seat.me in
    let slots = c.self.inside.rooms.shared.table_id.slots in
    let all = ap (λ u. u.share) c.party.view_is ∙ is in
    elim c.match-try_dequeue.branch [
      | in-Some-Out w ↦ rw w.result-is tt
      | in-Some-Empty w ↦ rw w.result-is tt
      | in-Some-Inconsistent w ↦
          let d = subst (λ r. Dequeued slots m k r) (w.in-Some-Inconsistent.is ∙ ap Some w.in-Some-Inconsistent.field-0-is) e.answer in
          absurd (whole_clear z z' slots m k _ c.party.invariant e.table c.party.invariant.rests.back e.rest.back d all)
      | in-None w ↦
          let d = subst (λ r. Dequeued slots m k r) w.in-None.is e.answer in
          absurd (whole_right z z' slots m k _ c.party.invariant e.table d all)
    ]
