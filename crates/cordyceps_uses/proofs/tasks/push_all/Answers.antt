use Rattle.std.proofs.Common.{◌++◌, ◌∷◌, [], List, length, ap, sym, ◌∙◌, append_assoc, arith}
use Rattle.cordyceps.specs.Elements.Element.{Element}
use Rattle.cordyceps.specs.Parties.Histories.{plain}
use Rattle.cordyceps.specs.Transfers.History.{held}
use Rattle.cordyceps_uses.specs.declared.tasks.Task.{Task}
use Rattle.cordyceps.proofs.Transfers.Sending.{held_pushed}
use Rattle.cordyceps_uses.proofs.tasks.push_all.Goals as goal

pub loop-task-preserved : goal.loop-task-preserved
loop-task-preserved g c =
    let is = c.loop-task.invariant in
    let task = c.in-Some.task in
    let next = c.in-Some.ensures.steps in
    let rest = c.next.new.self in
    let before = c.loop-task.party in
    let alone = is.2 ∙ c.requires.alone in
    let push = c.push.ensures.whole alone in (
      ap (λ (z : List (Element Task)). z ++ rest) (held_pushed task push.0 before c.push.new.party alone push.1)
          ∙ (append_assoc (held (plain before.seen)) (task ∷ []) rest ∙ (ap (λ (z : List (Element Task)). held (plain before.seen) ++ z) (sym next) ∙ is.0)),
      push.1.0.1 ∙ is.1,
      push.1.0.0.share ∙ is.2,
      omega (arith, is.3, ap (λ (z : List (Element Task)). length z) next, push.1.2),
    )
