use Rattle.std.proofs.Common.{◌++◌, ◌∷◌, [], List, refl, ap, sym, ◌∙◌, subst, append_assoc, append-nil}
use Rattle.cordyceps.specs.Elements.Element.{Elements}
use Rattle.cordyceps.specs.Queues.Moves.{put_by, got_by}
use Rattle.cordyceps.proofs.Parties.Moving.{moves_none, moves_then}
use Rattle.cordyceps_shared_uses.specs.declared.scheduler.name.Name.{Name}
use Rattle.cordyceps_shared_uses.specs.declared.timers.Timer.{Timer}
use Rattle.cordyceps_shared_uses.specs.declared.scheduler.work.Work.{Work}
use Rattle.cordyceps_shared_uses.specs.Names.{name_of, names}
use Rattle.cordyceps_shared_uses.specs.Ways.{Sent}
use Rattle.cordyceps_shared_uses.proofs.scheduler.threads.submit.Goals as goal

pub loop-task-init : goal.loop-task-init
loop-task-init g c = ([], refl, moves_none (put_by name_of) (got_by name_of) c.args.party.now)

pub send-requires : goal.send-requires
send-requires g c = let (_, _, moves) = c.loop-task.invariant in moves.acts.table ∙ c.requires.table

pub loop-task-preserved : goal.loop-task-preserved
loop-task-preserved g c =
    let (before, all, moves) = c.loop-task.invariant in
    let one = name_of c.in-Some.task ∷ [] in (
      before ++ one,
      all ∙ (ap (λ (z : Elements (Timer Work)). before ++ names z) c.in-Some.ensures ∙ sym (append_assoc before one (names c.pop_front.new.self))),
      moves_then (put_by name_of) (got_by name_of) before [] one [] c.args.party.now c.loop-task.party c.send.new.party moves c.send.ensures,
    )

pub returns : goal.returns
returns g c =
    let (before, all, moves) = c.loop-task.invariant in
    subst (λ (z : List Name). Sent z c.args.party.now c.loop-task.party)
    (sym (all ∙ (ap (λ (z : Elements (Timer Work)). before ++ names z) c.in_default.ensures.0 ∙ append-nil before)))
    moves
