use Rattle.std.proofs.Common.{◌++◌, ◌∷◌, [], List, map, ap, sym, ◌∙◌, subst, append_assoc, append-nil}
use Rattle.cordyceps.specs.Elements.Element.{Element}
use Rattle.cordyceps.specs.Transfers.Moves.{put_by, got_by, Moves}
use Rattle.cordyceps.proofs.Parties.Moving.{moves_none, moves_then}
use Rattle.cordyceps_shared_uses.specs.RunQueue.{ran}
use Rattle.cordyceps_shared_uses.specs.declared.run_queue.Job.{Job}
use Rattle.cordyceps_shared_uses.proofs.run_queue.submit_all.Goals as goal

pub loop-job-init : goal.loop-job-init
loop-job-init g c = ([], ap (map ran) (sym c.into_iter-job-iterator.ensures.into_iter_gives), moves_none (put_by ran) (got_by ran) c.args.party)

pub submit-requires : goal.submit-requires
submit-requires g c = let (_, _, moves) = c.loop-job.invariant in moves.acts.table ∙ c.requires

pub loop-job-preserved : goal.loop-job-preserved
loop-job-preserved g c =
    let (sent, all, moves) = c.loop-job.invariant in
    let one = ran c.in-Some.job ∷ [] in (
      sent ++ one,
      all ∙ (ap (λ (z : List (Element Job)). sent ++ map ran z) c.in-Some.ensures.steps ∙ sym (append_assoc sent one (map ran c.next.new.self))),
      moves_then (put_by ran) (got_by ran) sent [] one [] c.args.party c.loop-job.party c.submit.new.party moves c.submit.ensures,
    )

pub returns : goal.returns
returns g c =
    let (sent, all, moves) = c.loop-job.invariant in
    subst (λ (z : List (Element Job)). Moves ran z [] c.args.party c.loop-job.party)
    (sym (all ∙ (ap (λ (z : List (Element Job)). sent ++ map ran z) c.in-None.ensures.steps.0 ∙ append-nil sent)))
    moves
