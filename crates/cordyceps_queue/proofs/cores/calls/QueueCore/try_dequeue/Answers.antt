use Rattle.std.proofs.Common.{◌≡◌, true, ◌++◌, ap, sym, subst, ◌∙◌}
use Rattle.std.specs.Prelude.{slice_get}
use Rattle.cordyceps_queue.specs.Cores.Alone.{may_dequeue, after_dequeue, found_of, dequeue_events}
use Rattle.cordyceps_queue.specs.Cores.CoreMeets.{CoreMeets}
use Rattle.cordyceps_queue.proofs.CoreTheory.AloneDequeue.{dequeued_law, busy_law, inconsistent_law}
use Rattle.cordyceps_queue.proofs.cores.calls.QueueCore.try_dequeue.Goals as goal

pub invariant_of-self : goal.invariant_of-self
invariant_of-self g c =
    let m = c.self.inside.machine in
    let p = c.args.party in
    let may : may_dequeue (slice_get c.self.inside.machine.parties c.args.party) ≡ true = sym c.may_dequeue.ensures ∙ c.if-not-may_dequeue.false in
    rw (ap (λ o. o.0) c.dequeue.ensures) (c.self.invariant.0 ++ dequeue_events p (slice_get m.parties p) (found_of (after_dequeue m p).1), (dequeued_law c.self.invariant.0 m p c.self.invariant.1 may).0)

pub returns-clause-history : goal.returns-clause-history
returns-clause-history g c = λ h was.
    let m = c.self.inside.machine in
    let p = c.args.party in
    let may : may_dequeue (slice_get c.self.inside.machine.parties c.args.party) ≡ true = sym c.may_dequeue.ensures ∙ c.if-not-may_dequeue.false in
    rw (c.found.ensures, ap (λ o. o.0) c.dequeue.ensures, ap (λ o. o.1) c.dequeue.ensures, ← c.self.view_is) (dequeued_law h m p (subst (CoreMeets h) (sym c.self.view_is) was) may)

pub returns-clause-busy : goal.returns-clause-busy
returns-clause-busy g c = λ h q was held ne.
    let m = c.self.inside.machine in
    let p = c.args.party in
    let may : may_dequeue (slice_get c.self.inside.machine.parties c.args.party) ≡ true = sym c.may_dequeue.ensures ∙ c.if-not-may_dequeue.false in
    c.found.ensures ∙ ap found_of (ap (λ o. o.1) c.dequeue.ensures) ∙ busy_law h m p q (subst (CoreMeets h) (sym c.self.view_is) was) held ne may

pub returns-clause-inconsistent : goal.returns-clause-inconsistent
returns-clause-inconsistent g c = λ h was is.
    let m = c.self.inside.machine in
    let p = c.args.party in
    let may : may_dequeue (slice_get c.self.inside.machine.parties c.args.party) ≡ true = sym c.may_dequeue.ensures ∙ c.if-not-may_dequeue.false in
    rw (← c.self.view_is) (inconsistent_law h m p (subst (CoreMeets h) (sym c.self.view_is) was) may (ap found_of (sym (ap (λ o. o.1) c.dequeue.ensures)) ∙ sym c.found.ensures ∙ is))
