use Rattle.std.proofs.Common.{◌≡◌, true, false, [], refl, sym, ◌∙◌, subst}
use Rattle.cordyceps_queue.specs.Shared.Calls.{FindsBusy, TakesRight}
use Rattle.cordyceps_queue.proofs.SharedTheory.WaitingTries.{waits}
use Rattle.cordyceps_queue.proofs.shared.calls.MpscQueue.consume.Goals as goal

pub loop-preserved : goal.loop-preserved
loop-preserved g c =
    let busy = c.in-Err.ensures.answer in
    ((tt, tt), waits FindsBusy _ c.loop.party c.in-Err.back c.loop.invariant.1 busy (busy.0.1, busy.0.0.share) (λ is. let no : false ≡ true = c.in-Err.ensures.whole is in absurd (cc)))

pub loop-init : goal.loop-init
loop-init g c = ((tt, tt), record { tries = []; failed = refl; same = (refl, refl); none = λ is. refl })

pub try_consume-requires : goal.try_consume-requires
try_consume-requires g c = c.loop.invariant.1.same.0 ∙ c.requires

pub returns-in-Ok-clause-same : goal.returns-in-Ok-clause-same
returns-in-Ok-clause-same g c =
    let was = c.loop.invariant.1.same in
    let taken = c.in-Ok.ensures.answer in (taken.0.1 ∙ was.0, taken.0.0.share ∙ was.1)

pub returns-in-Ok-clause-answer : goal.returns-in-Ok-clause-answer
returns-in-Ok-clause-answer g c =
    let t = c.loop.invariant.1 in (t.tries, c.loop.party, t.failed, c.in-Ok.ensures.answer)

pub returns-in-Ok-clause-whole : goal.returns-in-Ok-clause-whole
returns-in-Ok-clause-whole g c is =
    subst (λ u. TakesRight u c.in-Ok.consumer) (sym (c.loop.invariant.1.none is)) c.in-Ok.ensures.answer
