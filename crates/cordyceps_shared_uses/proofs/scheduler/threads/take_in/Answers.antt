use Rattle.std.proofs.Common.{refl, ap, ◌++◌, ◌∷◌, [], ◌∙◌}
use Rattle.cordyceps.specs.Elements.Element.{Element}
use Rattle.cordyceps_shared_uses.specs.declared.timers.Timer.{Timer}
use Rattle.cordyceps_shared_uses.specs.declared.scheduler.work.Work.{Work}
use Rattle.cordyceps_shared_uses.specs.Accounts.{after_giving}
use Rattle.cordyceps_shared_uses.specs.Names.{name_of}
use Rattle.cordyceps_shared_uses.proofs.Scheduling.{came_nothing, came_one}
use Rattle.cordyceps_shared_uses.proofs.scheduler.threads.take_in.Goals as goal

pub returns-in-Err-clause-came : goal.returns-in-Err-clause-came
returns-in-Err-clause-came g c = came_nothing c.args.mine.now c.in-Err.why c.args.party.now c.try_dequeue.new.party c.in-Err.ensures.answer

pub returns-in-Err-clause-tasks : goal.returns-in-Err-clause-tasks
returns-in-Err-clause-tasks g c = (refl, λ few. c.in-Err.ensures.answer)

pub returns-in-Ok-clause-came : goal.returns-in-Ok-clause-came
returns-in-Ok-clause-came g c =
    let a = c.args.mine.now in
    let same = ap (λ (e : Element (Timer Work)). after_giving (name_of e) a) c.into_kind.ensures in
    came_one a c.put.new.mine c.in-Ok.task c.args.party.now c.try_dequeue.new.party (c.put.ensures.mine ∙ same) c.in-Ok.ensures.answer

pub returns-in-Ok-clause-tasks : goal.returns-in-Ok-clause-tasks
returns-in-Ok-clause-tasks g c =
    let before = c.args.runnable.now.tasks in
    let same = ap (λ (e : Element (Timer Work)). before ++ e ∷ []) c.into_kind.ensures in
    (c.in-Ok.task, c.in-Ok.ensures.answer, c.put.ensures.last ∙ same)
