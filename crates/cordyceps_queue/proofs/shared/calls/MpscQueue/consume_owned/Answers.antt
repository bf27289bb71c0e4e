use Rattle.std.proofs.Common.{◌≡◌, true, false, [], refl, sym, ap, ◌∙◌, subst}
use Rattle.std.specs.Arc.{arc_value}
use Rattle.cordyceps_queue.specs.Shared.Calls.{FindsBusy, TakesRight}
use Rattle.cordyceps_queue.proofs.SharedTheory.WaitingTries.{waits}
use Rattle.cordyceps_queue.proofs.shared.calls.MpscQueue.consume_owned.Goals as goal

pub loop-preserved : goal.loop-preserved
loop-preserved g c =
    let i = c.loop.invariant in
    let back = c.in-Err.ensures.answer in record {
      iterator = (tt, tt);
      queue = back.0 ∙ i.queue;
      waited = waits FindsBusy _ c.loop.both.1 c.in-Err.back.1 i.waited back.1 (back.1.0.1, back.1.0.0.share) (λ is. let no : false ≡ true = c.in-Err.ensures.whole is in absurd (cc));
    }

pub loop-init : goal.loop-init
loop-init g c = record { iterator = (tt, tt); queue = refl; waited = record { tries = []; failed = refl; same = (refl, refl); none = λ is. refl } }

pub try_consume_owned-requires : goal.try_consume_owned-requires
try_consume_owned-requires g c =
    let i = c.loop.invariant in rw i.queue (i.waited.same.0 ∙ c.requires)

pub returns-in-Ok-clause-queue : goal.returns-in-Ok-clause-queue
returns-in-Ok-clause-queue g c = c.in-Ok.ensures.answer.0 ∙ ap (λ q. arc_value q) c.loop.invariant.queue

pub returns-in-Ok-clause-same : goal.returns-in-Ok-clause-same
returns-in-Ok-clause-same g c =
    let was = c.loop.invariant.waited.same in
    let taken = c.in-Ok.ensures.answer.1 in (taken.0.1 ∙ was.0, taken.0.0.share ∙ was.1)

pub returns-in-Ok-clause-answer : goal.returns-in-Ok-clause-answer
returns-in-Ok-clause-answer g c =
    let t = c.loop.invariant.waited in (t.tries, c.loop.both.1, t.failed, c.in-Ok.ensures.answer.1)

pub returns-in-Ok-clause-whole : goal.returns-in-Ok-clause-whole
returns-in-Ok-clause-whole g c is =
    subst (λ u. TakesRight u c.in-Ok.consumer.party) (sym (c.loop.invariant.waited.none is)) c.in-Ok.ensures.answer.1
