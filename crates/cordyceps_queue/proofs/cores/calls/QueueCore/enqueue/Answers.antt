use Rattle.std.proofs.Common.{◌≡◌, true, false, ap, sym, ◌∙◌}
use Rattle.cordyceps_base.specs.Runs.{after}
use Rattle.cordyceps_queue.specs.declared.cores.steps.QueueStep.TheVariants as step
use Rattle.cordyceps_queue.specs.Cores.Machine.{Machine, after_step}
use Rattle.cordyceps_queue.specs.Cores.CoreMeets.{core_step}
use Rattle.cordyceps_queue.specs.Cores.Alone.{is_ready, enqueue_steps}
use Rattle.cordyceps_queue.proofs.CoreTheory.AloneEnqueue.{enqueued_law}
use Rattle.cordyceps_queue.proofs.cores.calls.QueueCore.enqueue.Goals as goal

pub returns-then-not-is_ready-clause-accepted : goal.returns-then-not-is_ready-clause-accepted
returns-then-not-is_ready-clause-accepted g c =
    let unready : is_ready c.args.self.now c.args.party ≡ false = ap (λ (n : Machine g.row.E.Denot). is_ready n c.args.party) (sym c.self.view_is) ∙ (sym c.is_ready.ensures ∙ c.if-not-is_ready.true) in
    sym unready

pub returns-clause-ok : goal.returns-clause-ok
returns-clause-ok g c =
    c.step-3.ensures.machine ∙ ap (λ (n : Machine g.row.E.Denot). (after_step n c.args.party step.Link).0) (c.step-2.ensures.machine ∙ ap (λ (n : Machine g.row.E.Denot). (after_step n c.args.party step.Swap).0) c.step.ensures.machine)

pub returns-clause-history : goal.returns-clause-history
returns-clause-history g c = λ h was.
    let m = c.args.self.now in
    let p = c.args.party in
    let ready : is_ready c.args.self.now c.args.party ≡ true = ap (λ (n : Machine g.row.E.Denot). is_ready n c.args.party) (sym c.self.view_is) ∙ (sym c.is_ready.ensures ∙ c.if-not-is_ready.false) in
    let same : c.step-3.new.self ≡ after core_step c.args.self.now (enqueue_steps c.args.party c.args.element) =
    c.step-3.ensures.machine ∙ ap (λ (n : Machine g.row.E.Denot). (after_step n c.args.party step.Link).0) (c.step-2.ensures.machine ∙ ap (λ (n : Machine g.row.E.Denot). (after_step n c.args.party step.Swap).0) c.step.ensures.machine) in
    rw same (enqueued_law h m p c.args.element was ready)
