use Rattle.std.proofs.Common.{[], refl, ◌∙◌, subst}
use Rattle.cordyceps_queue.specs.Shared.Calls.{FindsFull, EnqueuesRefilled}
use Rattle.cordyceps_queue.proofs.SharedTheory.WaitingTries.{stays_full, same_then, retries}
use Rattle.cordyceps_queue.proofs.shared.calls.MpscQueue.enqueue_waiting.Goals as goal

pub loop-init : goal.loop-init
loop-init g c = (refl, record { tries = []; failed = refl; same = (refl, refl) })

pub try_enqueue-requires : goal.try_enqueue-requires
try_enqueue-requires g c = c.loop.invariant.1.same.0 ∙ c.requires

pub loop-preserved : goal.loop-preserved
loop-preserved g c =
    let full = c.in-Err.ensures.answer in
    let w = c.try_enqueue.new.party in (
      full.0 ∙ c.loop.invariant.0,
      retries FindsFull c.args.party.now c.loop.party w c.loop.invariant.1 full.1 (stays_full c.loop.party w full.1),
    )

pub returns-in-Ok-clause-same : goal.returns-in-Ok-clause-same
returns-in-Ok-clause-same g c =
    let put = c.in-Ok.ensures.answer in same_then c.args.party.now c.loop.party c.try_enqueue.new.party c.loop.invariant.1.same (put.0.1, put.0.0.share)

pub returns-in-Ok-clause-answer : goal.returns-in-Ok-clause-answer
returns-in-Ok-clause-answer g c =
    let t = c.loop.invariant.1 in
    (t.tries, c.loop.party, t.failed, subst (λ e. EnqueuesRefilled e c.loop.party c.try_enqueue.new.party) c.loop.invariant.0 c.in-Ok.ensures.answer)
