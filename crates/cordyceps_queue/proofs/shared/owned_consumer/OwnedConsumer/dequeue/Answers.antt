use Rattle.std.proofs.Common.{[], refl, sym, ◌∙◌, subst}
use Rattle.std.specs.Prelude.{Ok, Err}
use Rattle.cordyceps_queue.specs.declared.cores.steps.TryDequeueError.TheVariants as error
use Rattle.cordyceps_queue.specs.Shared.Calls.{Consumes}
use Rattle.cordyceps_queue.proofs.SharedTheory.WaitingTries.{misses_blocked, stays_blocked, same_then, waits, uncertain}
use Rattle.cordyceps_queue.proofs.shared.owned_consumer.OwnedConsumer.dequeue.Goals as goal

pub loop-preserved : goal.loop-preserved
loop-preserved g c =
    let u = c.loop.self.party in
    let w = c.try_dequeue.new.self.party in
    let some = c.found_nothing.ensures.no c.if-found_nothing.false in
    let d = c.in-Err.ensures.answer in
    record { iterator = (tt, tt); queue = c.in-Err.ensures.queue ∙ c.loop.invariant.queue; waited = waits (Consumes (Err error.Inconsistent)) c.args.self.now.party u w c.loop.invariant.waited (misses_blocked u w c.in-Err.why some d) (stays_blocked u w c.in-Err.why d) (λ is. uncertain g.row.T-Handle.Denot c.in-Err.why some (c.in-Err.ensures.whole is)) }

pub loop-init : goal.loop-init
loop-init g c = record { iterator = (tt, tt); queue = refl; waited = record { tries = []; failed = refl; same = (refl, refl); none = λ is. refl } }

pub returns-in-Ok-clause-same : goal.returns-in-Ok-clause-same
returns-in-Ok-clause-same g c =
    let d = c.in-Ok.ensures.answer in same_then c.args.self.now.party c.loop.self.party c.try_dequeue.new.self.party c.loop.invariant.waited.same (d.0.1, d.0.0.share)

pub returns-in-Ok-clause-answer : goal.returns-in-Ok-clause-answer
returns-in-Ok-clause-answer g c =
    let t = c.loop.invariant.waited in (t.tries, c.loop.self.party, t.failed, c.in-Ok.ensures.answer)

pub returns-then-found_nothing-clause-same : goal.returns-then-found_nothing-clause-same
returns-then-found_nothing-clause-same g c =
    same_then c.args.self.now.party c.loop.self.party c.try_dequeue.new.self.party c.loop.invariant.waited.same (stays_blocked c.loop.self.party c.try_dequeue.new.self.party c.in-Err.why c.in-Err.ensures.answer)

pub returns-then-found_nothing-clause-answer : goal.returns-then-found_nothing-clause-answer
returns-then-found_nothing-clause-answer g c =
    let t = c.loop.invariant.waited in
    (t.tries, c.loop.self.party, t.failed, subst (λ w. Consumes (Err w) c.loop.self.party c.try_dequeue.new.self.party) (c.found_nothing.ensures.yes c.if-found_nothing.true) c.in-Err.ensures.answer)

pub returns-in-Ok-clause-whole : goal.returns-in-Ok-clause-whole
returns-in-Ok-clause-whole g c is =
    subst (λ u. Consumes (Ok c.in-Ok.oldest) u c.try_dequeue.new.self.party) (sym (c.loop.invariant.waited.none is)) c.in-Ok.ensures.answer

pub returns-then-found_nothing-clause-whole : goal.returns-then-found_nothing-clause-whole
returns-then-found_nothing-clause-whole g c is =
    subst (λ u. Consumes (Err error.Empty) u c.try_dequeue.new.self.party) (sym (c.loop.invariant.waited.none is))
    (subst (λ w. Consumes (Err w) c.loop.self.party c.try_dequeue.new.self.party) (c.found_nothing.ensures.yes c.if-found_nothing.true) c.in-Err.ensures.answer)

pub returns-in-Ok-clause-queue : goal.returns-in-Ok-clause-queue
returns-in-Ok-clause-queue g c = c.in-Ok.ensures.queue ∙ c.loop.invariant.queue

pub returns-then-found_nothing-clause-queue : goal.returns-then-found_nothing-clause-queue
returns-then-found_nothing-clause-queue g c = c.in-Err.ensures.queue ∙ c.loop.invariant.queue
