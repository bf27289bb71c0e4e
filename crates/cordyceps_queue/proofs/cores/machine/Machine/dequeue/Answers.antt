use Rattle.std.proofs.Common.{Some, Ok, ap, sym, ◌∙◌}
use Rattle.cordyceps_queue.specs.declared.cores.steps.QueueStep.TheVariants as step
use Rattle.cordyceps_queue.specs.Cores.CoreMeets.{IsSound}
use Rattle.cordyceps_queue.proofs.CoreTheory.TryGoesOn.{sound_tries, taken_gives}
use Rattle.cordyceps_queue.proofs.CoreTheory.CoreKeeps.{sound_step}
use Rattle.cordyceps_queue.proofs.cores.machine.Machine.dequeue.Goals as goal

pub try_holding-answer-requires : goal.try_holding-answer-requires
try_holding-answer-requires g c = rw (ap (λ o. o.0) c.act.ensures) (sound_step c.args.self.now c.args.party step.Take c.requires)

pub act-requires-in-Ok-Taken : goal.act-requires-in-Ok-Taken
act-requires-in-Ok-Taken g c =
    let taken : IsSound c.act.new.self = rw (ap (λ o. o.0) c.act.ensures) (sound_step c.args.self.now c.args.party step.Take c.requires) in
    rw (ap (λ o. o.0) c.try_holding-answer.ensures) (sound_tries c.args.party 6 c.act.new.self taken)

pub returns-in-Ok-Taken : goal.returns-in-Ok-Taken
returns-in-Ok-Taken g c =
    taken_gives c.args.self.now c.act.new.self c.try_holding-answer.new.self c.act-in-Ok-Taken.new.self c.args.party c.act.result c.try_holding-answer.result (sym c.stage.ensures ∙ c.in-Some-Rest.is ∙ ap (λ l. Some l) c.in-Some-Rest.field-0-is)
    c.act.ensures (c.in-Ok-Taken.is ∙ ap (λ a. Ok a) c.in-Ok-Taken.field-0-is) c.try_holding-answer.ensures (ap (λ o. o.0) c.act-in-Ok-Taken.ensures)
