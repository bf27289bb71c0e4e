use Rattle.std.proofs.Common.{[], ◌∷◌, refl, ◌∙◌, subst}
use Rattle.cordyceps.specs.Elements.Element.{Element}
use Rattle.cordyceps.specs.Transfers.Moves.{put_by, got_by, Moves}
use Rattle.cordyceps.proofs.Parties.Moving.{moves_none, moves_then}
use Rattle.cordyceps.proofs.Transfers.Sending.{then_refilled}
use Rattle.cordyceps_shared_uses.specs.RunQueue.{ran}
use Rattle.cordyceps_shared_uses.specs.declared.run_queue.Job.{Job}
use Rattle.cordyceps_shared_uses.proofs.Working.{not_pushed}
use Rattle.cordyceps_shared_uses.proofs.run_queue.submit.Goals as goal

pub loop-init : goal.loop-init
loop-init g c = (refl, moves_none (put_by ran) (got_by ran) c.args.party.now)

pub refill_and_try_push-requires : goal.refill_and_try_push-requires
refill_and_try_push-requires g c = c.loop.invariant.1.acts.table ∙ c.requires

pub loop-preserved : goal.loop-preserved
loop-preserved g c =
    let (same, moves) = c.loop.invariant in
    let (back, nothing) = not_pushed c.loop.job c.in-Err.error c.loop.party c.refill_and_try_push.new.party c.in-Err.ensures.answer in (
      c.into_inner-job.ensures ∙ (back ∙ same),
      moves_then (put_by ran) (got_by ran) [] [] [] [] c.args.party.now c.loop.party c.refill_and_try_push.new.party moves nothing,
    )

pub returns-in-Ok : goal.returns-in-Ok
returns-in-Ok g c =
    let (same, moves) = c.loop.invariant in
    subst (λ (e : Element Job). Moves ran (ran e ∷ []) [] c.args.party.now c.refill_and_try_push.new.party) same
    (then_refilled ran c.loop.job c.in-Ok.was_empty c.refill_and_try_push.new.party moves c.in-Ok.ensures.answer)
