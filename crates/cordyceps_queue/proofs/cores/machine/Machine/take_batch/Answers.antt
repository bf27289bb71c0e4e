use Rattle.std.proofs.Common.{◌≡◌, Some, Ok, ap, sym, ◌∙◌, subst}
use Rattle.std.specs.Prelude.{slice_get}
use Rattle.cordyceps_queue.specs.declared.cores.stage.Stage.TheVariants.{Rest}
use Rattle.cordyceps_queue.specs.declared.cores.steps.QueueStep.TheVariants as step
use Rattle.cordyceps_queue.specs.declared.cores.steps.QueueAnswer.TheVariants as answer
use Rattle.cordyceps_queue.specs.Cores.Machine.{after_step}
use Rattle.cordyceps_queue.proofs.CoreTheory.AloneDrain.{Took, law, taken_first}
use Rattle.cordyceps_queue.proofs.cores.machine.Machine.take_batch.Goals as goal

pub drain-stop-requires-clause-room : goal.drain-stop-requires-clause-room
drain-stop-requires-clause-room g c =
    let m = c.args.self.now in
    let p = c.args.party in
    let (h, met, roomy) = c.requires.room in
    let at : slice_get m.parties p ≡ Some Rest = sym c.stage.ensures ∙ c.in-Some-Rest.is ∙ ap (λ l. Some l) c.in-Some-Rest.field-0-is in
    let took : (after_step m p step.Take).1 ≡ Ok answer.Taken = sym (ap (λ o. o.1) c.act.ensures) ∙ (c.in-Ok-Taken.is ∙ ap (λ a. Ok a) c.in-Ok-Taken.field-0-is) in
    let T = subst (Took h p) (sym (ap (λ o. o.0) c.act.ensures)) (taken_first h m p met at took) in
    (_, T.meets, rw T.held_is roomy)

pub act-requires-in-Ok-Taken : goal.act-requires-in-Ok-Taken
act-requires-in-Ok-Taken g c =
    let m = c.args.self.now in
    let p = c.args.party in
    let room = c.requires.room in
    let at : slice_get m.parties p ≡ Some Rest = sym c.stage.ensures ∙ c.in-Some-Rest.is ∙ ap (λ l. Some l) c.in-Some-Rest.field-0-is in
    let took : (after_step m p step.Take).1 ≡ Ok answer.Taken = sym (ap (λ o. o.1) c.act.ensures) ∙ (c.in-Ok-Taken.is ∙ ap (λ a. Ok a) c.in-Ok-Taken.field-0-is) in
    let T = subst (Took room.0 p) (sym (ap (λ o. o.0) c.act.ensures)) (taken_first room.0 m p room.1 at took) in
    rw (ap (λ d. d.0) c.drain-stop.ensures) (_, (law c.args.max _ c.act.new.self p T.holds.0 T.meets T.holds.1).meets)
