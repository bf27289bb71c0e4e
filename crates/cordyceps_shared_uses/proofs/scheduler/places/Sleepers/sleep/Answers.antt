use Rattle.std.proofs.Common.{◌≡◌, ◌+◌, ◌-◌, ◌≤◌, ◌^◌, min, ap, sym, ◌∙◌, subst, arith}
use Rattle.cordyceps.specs.Elements.Element.{Element}
use Rattle.cordyceps.specs.Elements.Nodes.{Nodes}
use Rattle.cordyceps_shared_uses.specs.declared.timers.Timer.{Timer}
use Rattle.cordyceps_shared_uses.specs.declared.scheduler.work.Work.{Work}
use Rattle.cordyceps_shared_uses.specs.Names.{name_of}
use Rattle.cordyceps_shared_uses.specs.Timers.{started}
use Rattle.cordyceps_shared_uses.proofs.Scheduling.{open_got, holds_slept, none_missed_started}
use Rattle.cordyceps_shared_uses.proofs.scheduler.places.Sleepers.sleep.Goals as goal

pub invariant_of-self : goal.invariant_of-self
invariant_of-self g c =
    let was = c.args.self.now in
    let same = c.of-name.ensures ∙ sym (ap (λ (v : Timer Work). name_of (record { id = c.args.task.id; value = v })) c.get_mut.ensures.value) in
    record {
      of = open_got was.of c.give.ensures.got;
      counted = holds_slept c.in-Ok.field-0 _ was.timers c.restart.new.self was.counted c.give.ensures.got same c.in-Ok.ensures.started;
      passed = subst (λ k. k ≤ was.time) (sym c.restart.ensures.clock) was.passed;
      none_missed =
          none_missed_started was.time c.in-Ok.field-0 _ was.timers c.restart.new.self c.in-Ok.ensures.started was.none_missed (omega (arith, c.end_of_pause.ensures.later));
    }

pub returns-in-Ok-clause-sleeps : goal.returns-in-Ok-clause-sleeps
returns-in-Ok-clause-sleeps g c =
    let was = c.args.self.now in let spot = c.in-Ok.field-0 in
    let ends : c.end_of_pause.result ≡ min (was.time + c.args.task.value.payload.pause) (2 ^ 64 - 1) = c.end_of_pause.ensures.is ∙ ap (λ (v : Timer Work). min (was.time + v.payload.pause) (2 ^ 64 - 1)) c.get.ensures in
    let put : Element (Timer Work) → Nodes (Timer Work) = λ t. started was.timers.clock spot t was.timers.nodes in (
      spot,
      c.in-Ok.ensures.started
          ∙ (λ i. put (record { id = c.args.task.id; value = record { deadline = ends i; payload = (c.get_mut.ensures.value i).payload } })),
    )
