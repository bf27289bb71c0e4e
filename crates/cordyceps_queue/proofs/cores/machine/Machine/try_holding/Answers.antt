use Rattle.std.proofs.Common.{◌≡◌, ◌-◌, ◌<◌, ap, sym, ◌∙◌, arith}
use Rattle.std.specs.Prelude.{slice_get}
use Rattle.cordyceps_queue.specs.declared.cores.steps.QueueStep.{QueueStep}
use Rattle.cordyceps_queue.specs.Cores.Machine.{Outcome, after_step}
use Rattle.cordyceps_queue.specs.Cores.Alone.{next_step, tries}
use Rattle.cordyceps_queue.proofs.CoreTheory.TryGoesOn.{going_more, going_ends}
use Rattle.cordyceps_queue.proofs.CoreTheory.CoreKeeps.{sound_step}
use Rattle.cordyceps_queue.proofs.cores.machine.Machine.try_holding.Goals as goal

pub loop-preserved : goal.loop-preserved
loop-preserved g c =
    let m = c.loop.self in
    let p = c.args.party in
    let s : c.next_step.result ≡ next_step (slice_get c.loop.self.parties c.args.party) = c.next_step.ensures ∙ ap next_step c.stage.ensures in
    let out = c.act-answer.ensures ∙ ap (λ (s : QueueStep g.row.E.Denot). after_step c.loop.self c.args.party s) s in
    let machine = ap (λ (o : Outcome g.row.E.Denot). o.0) c.act-answer.ensures in
    let lt : c.loop.counter < 6 = omega (arith, c.loop-test.true) in
    going_more p c.args.self.now m c.act-answer.new.self c.loop.counter c.act-answer.result lt c.loop.invariant out
    (rw machine (sound_step m p c.next_step.result c.loop.invariant.sound)) (sym c.is_done.ensures ∙ c.if-not-is_done.false)

pub returns-then-not-is_done : goal.returns-then-not-is_done
returns-then-not-is_done g c =
    let m = c.loop.self in
    let p = c.args.party in
    let s : c.next_step.result ≡ next_step (slice_get c.loop.self.parties c.args.party) = c.next_step.ensures ∙ ap next_step c.stage.ensures in
    let out = c.act-answer.ensures ∙ ap (λ (s : QueueStep g.row.E.Denot). after_step c.loop.self c.args.party s) s in
    let lt : c.loop.counter < 6 = omega (arith, c.loop-test.true) in
    going_ends p c.args.self.now m c.act-answer.new.self c.loop.counter c.act-answer.result lt c.loop.invariant out (sym c.is_done.ensures ∙ c.if-not-is_done.true)

pub returns : goal.returns
returns g c =
    let s : c.next_step-2.result ≡ next_step (slice_get c.loop.self.parties c.args.party) = c.next_step-2.ensures ∙ ap next_step c.stage-2.ensures in
    let zero : 6 - c.loop.counter ≡ 0 = omega (arith, c.loop-test.false) in
    c.act.ensures ∙ ap (λ (s : QueueStep g.row.E.Denot). after_step c.loop.self c.args.party s) s ∙ ap (λ k. tries c.args.party k c.loop.self) (sym zero)
    ∙ c.loop.invariant.same
