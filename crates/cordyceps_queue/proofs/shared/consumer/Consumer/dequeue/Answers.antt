use Rattle.std.proofs.Common.{[], refl, sym, subst}
use Rattle.std.specs.Prelude.{Ok, Err}
use Rattle.cordyceps_queue.specs.declared.cores.steps.TryDequeueError.TheVariants as error
use Rattle.cordyceps_queue.specs.Shared.Calls.{Consumes}
use Rattle.cordyceps_queue.proofs.SharedTheory.WaitingTries.{misses_blocked, stays_blocked, same_then, waits, uncertain}
use Rattle.cordyceps_queue.proofs.shared.consumer.Consumer.dequeue.Goals as goal

pub loop-preserved : goal.loop-preserved
loop-preserved g c =
    let u = c.loop.self in
    let w = c.try_dequeue.new.self in
    let some = c.found_nothing.ensures.no c.if-found_nothing.false in
    let d = c.in-Err.ensures.answer in
    ((tt, tt), waits (Consumes (Err error.Inconsistent)) c.args.self.now u w c.loop.invariant.1 (misses_blocked u w c.in-Err.why some d) (stays_blocked u w c.in-Err.why d) (λ is. uncertain g.row.T-Handle.Denot c.in-Err.why some (c.in-Err.ensures.whole is)))

pub loop-init : goal.loop-init
loop-init g c = ((tt, tt), record { tries = []; failed = refl; same = (refl, refl); none = λ is. refl })

pub returns-in-Ok-clause-same : goal.returns-in-Ok-clause-same
returns-in-Ok-clause-same g c =
    let d = c.in-Ok.ensures.answer in same_then c.args.self.now c.loop.self c.try_dequeue.new.self c.loop.invariant.1.same (d.0.1, d.0.0.share)

pub returns-in-Ok-clause-answer : goal.returns-in-Ok-clause-answer
returns-in-Ok-clause-answer g c =
    let t = c.loop.invariant.1 in (t.tries, c.loop.self, t.failed, c.in-Ok.ensures.answer)

pub returns-then-found_nothing-clause-same : goal.returns-then-found_nothing-clause-same
returns-then-found_nothing-clause-same g c =
    same_then c.args.self.now c.loop.self c.try_dequeue.new.self c.loop.invariant.1.same (stays_blocked c.loop.self c.try_dequeue.new.self c.in-Err.why c.in-Err.ensures.answer)

pub returns-then-found_nothing-clause-answer : goal.returns-then-found_nothing-clause-answer
returns-then-found_nothing-clause-answer g c =
    let t = c.loop.invariant.1 in
    (t.tries, c.loop.self, t.failed, subst (λ w. Consumes (Err w) c.loop.self c.try_dequeue.new.self) (c.found_nothing.ensures.yes c.if-found_nothing.true) c.in-Err.ensures.answer)

pub returns-in-Ok-clause-whole : goal.returns-in-Ok-clause-whole
returns-in-Ok-clause-whole g c is =
    subst (λ u. Consumes (Ok c.in-Ok.first) u c.try_dequeue.new.self) (sym (c.loop.invariant.1.none is)) c.in-Ok.ensures.answer

pub returns-then-found_nothing-clause-whole : goal.returns-then-found_nothing-clause-whole
returns-then-found_nothing-clause-whole g c is =
    subst (λ u. Consumes (Err error.Empty) u c.try_dequeue.new.self) (sym (c.loop.invariant.1.none is))
    (subst (λ w. Consumes (Err w) c.loop.self c.try_dequeue.new.self) (c.found_nothing.ensures.yes c.if-found_nothing.true) c.in-Err.ensures.answer)
