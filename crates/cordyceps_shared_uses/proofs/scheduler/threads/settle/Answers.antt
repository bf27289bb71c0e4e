use Rattle.std.proofs.Common.{◌∷◌, rules, refl, ap, ◌∙◌, inl, inr}
use Rattle.cordyceps.specs.Elements.Element.{Element}
use Rattle.cordyceps_shared_uses.specs.declared.timers.Timer.{Timer}
use Rattle.cordyceps_shared_uses.specs.declared.scheduler.work.Work.{Work}
use Rattle.cordyceps_shared_uses.specs.Names.{name_of}
use Rattle.cordyceps_shared_uses.proofs.Scheduling.{settles_kept}
use Rattle.cordyceps_shared_uses.proofs.scheduler.threads.settle.Goals as goal

pub returns-clause-settles : goal.returns-clause-settles
returns-clause-settles g c =
    settles_kept c.args.task c.in-Err.awake c.args.mine.now c.sleep-slept.new.mine c.args.done.now c.args.kept.now c.keep.new.kept c.in-Err.ensures.mine (ap name_of c.in-Err.ensures.returned) c.keep.ensures

pub returns-clause-kept : goal.returns-clause-kept
returns-clause-kept g c = inr (_, c.keep.ensures ∙ ap (λ (z : Element (Timer Work)). z ∷ c.args.kept.now) c.in-Err.ensures.returned)

pub returns-then-is_done-clause-finished : goal.returns-then-is_done-clause-finished
returns-then-is_done-clause-finished g c = search rules

pub returns-then-is_done-clause-settles : goal.returns-then-is_done-clause-settles
returns-then-is_done-clause-settles g c = search rules
