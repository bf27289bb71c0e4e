use Rattle.std.proofs.Common.{sym, subst, ◌∙◌, arith, rules}
use Rattle.cordyceps_stack.specs.Shared.Calls.{PushesAt, Misses}
use Rattle.cordyceps_stack.proofs.SharedTheory.TriesHold.{pushes_now, pushes_then, misses_now, misses_then}
use Rattle.cordyceps_stack.proofs.shared.calls.TransferStack.refill_and_try_push.Goals.{else-rooms-eq0-via-then-rooms-eq0+else-refill_at_most-eq0, else-rooms-eq0-via-else-rooms-eq0}
use Rattle.cordyceps_stack.proofs.shared.calls.TransferStack.refill_and_try_push.Goals as goal

pub returns-in-Ok-clause-answer : goal.returns-in-Ok-clause-answer
returns-in-Ok-clause-answer g c =
    let handle = c.args.handle in
    let first = c.in-Ok.was_empty in
    let old = c.args.party.now in
    let now = c.try_push.new.party in
    elim c.else-rooms-eq0.branch [
      | else-rooms-eq0-via-then-rooms-eq0+else-refill_at_most-eq0 w ↦
          pushes_then handle first w.refill_at_most.result old w.refill_at_most.new.party now w.refill_at_most.ensures.answer
          (sym c.rooms.ensures.count ∙ w.if-rooms-eq0.true)
          (subst (λ u. PushesAt 1 handle first u now) w.party-is c.in-Ok.ensures.answer)
      | else-rooms-eq0-via-else-rooms-eq0 w ↦
          pushes_now handle first old now
          (subst (λ u. PushesAt 1 handle first u now) w.party-is c.in-Ok.ensures.answer)
    ]

pub returns-in-Err-clause-answer : goal.returns-in-Err-clause-answer
returns-in-Err-clause-answer g c =
    let old = c.args.party.now in
    let now = c.try_push.new.party in
    let missed = c.in-Err.ensures.answer in (
      missed.0,
      elim c.else-rooms-eq0.branch [
        | else-rooms-eq0-via-then-rooms-eq0+else-refill_at_most-eq0 w ↦
            let more = w.refill_at_most.ensures.answer.1 in
            let found = w.if-refill_at_most-eq0.false in
            misses_then w.refill_at_most.result old w.refill_at_most.new.party now w.refill_at_most.ensures.answer
            (sym c.rooms.ensures.count ∙ w.if-rooms-eq0.true) (omega arith)
            (subst (λ u. Misses u now) w.party-is missed.1)
        | else-rooms-eq0-via-else-rooms-eq0 w ↦
            let count = c.rooms.ensures.count in
            let some_of = w.if-rooms-eq0.false in
            misses_now old now (omega arith) (subst (λ u. Misses u now) w.party-is missed.1)
      ],
    )

pub returns-then-refill_at_most-eq0-clause-answer : goal.returns-then-refill_at_most-eq0-clause-answer
returns-then-refill_at_most-eq0-clause-answer g c = search rules
