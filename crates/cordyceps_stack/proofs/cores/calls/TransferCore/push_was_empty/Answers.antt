use Rattle.std.proofs.Common.{◌≡◌, sym, ap, ◌∙◌, rules}
use Rattle.std.specs.Prelude.{is_none}
use Rattle.cordyceps_stack.specs.declared.cores.steps.TransferStep.TheVariants as step
use Rattle.cordyceps_stack.specs.Cores.Machine.{Machine, after_step}
use Rattle.cordyceps_stack.proofs.CoreTheory.WalkCalls.{push_hands_alone}
use Rattle.cordyceps_stack.proofs.CoreTheory.AlonePush.{push_alone}
use Rattle.cordyceps_stack.proofs.cores.calls.TransferCore.push_was_empty.Goals as goal

pub returns-clause-ok : goal.returns-clause-ok
returns-clause-ok g c =
    let M = Machine g.row.E.Denot in
    let loaded = c.step.ensures.machine in
    let linked = c.step-2.ensures.machine ∙ ap (λ (m : M). (after_step m c.args.party step.SetNext).0) loaded in
    let was : c.is_none-was_empty.result ≡ is_none c.args.self.now.head = search rules in
    (was, c.step-3.ensures.machine ∙ ap (λ (m : M). (after_step m c.args.party step.Exchange).0) linked)

pub returns-clause-history : goal.returns-clause-history
returns-clause-history g c = λ h was.
    let same : c.is_none-was_empty.result ≡ is_none c.args.self.now.head = search rules in
    let law = push_alone c.args.self.now c.step.new.self c.step-2.new.self c.step-3.new.self c.args.party c.args.element (sym c.is_ready.ensures ∙ c.if-not-is_ready.false) c.step.ensures.machine c.step-2.ensures.machine c.step-3.ensures.machine h was in
    rw same law

pub returns-clause-walks : goal.returns-clause-walks
returns-clause-walks g c = λ h was.
    push_hands_alone c.args.self.now c.step.new.self c.step-2.new.self c.step-3.new.self c.args.party c.args.element (sym c.is_ready.ensures ∙ c.if-not-is_ready.false) c.step.ensures.machine c.step-2.ensures.machine c.step-3.ensures.machine h was
