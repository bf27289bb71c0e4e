use Rattle.std.proofs.Common.{◌≡◌, true, ap, sym, ◌∙◌, subst, arith}
use Rattle.std.specs.Prelude.{slice_get}
use Rattle.cordyceps_queue.specs.Cores.Alone.{may_dequeue}
use Rattle.cordyceps_queue.specs.Cores.CoreMeets.{CoreMeets}
use Rattle.cordyceps_queue.specs.Cores.Drain.{came_out, stop_of, batch_of}
use Rattle.cordyceps_queue.proofs.CoreTheory.AloneDrain.{batch_law, oldest_law, held_law}
use Rattle.cordyceps_queue.proofs.CoreTheory.HeldCount.{room_enough}
use Rattle.cordyceps_queue.proofs.cores.calls.QueueCore.take_linked.Goals as goal

pub take_batch-stop-requires-clause-room : goal.take_batch-stop-requires-clause-room
take_batch-stop-requires-clause-room g c =
    let s = c.self.invariant in
    (s.0, s.1, room_enough s.0 c.self.inside.machine s.1 c.args.max _ (omega (arith, c.in-Ok.ensures.capacity, c.min-room.ensures, c.count_held.ensures)))

pub invariant_of-self : goal.invariant_of-self
invariant_of-self g c =
    let m = c.self.inside.machine in
    let s = c.self.invariant in
    let may : may_dequeue (slice_get m.parties c.args.party) ≡ true = sym c.may_dequeue.ensures ∙ c.if-not-may_dequeue.false in
    rw (ap (λ d. d.0) c.take_batch-stop.ensures) (_, (batch_law c.args.max s.0 m c.args.party s.1 may).meets)

pub returns-clause-history : goal.returns-clause-history
returns-clause-history g c = λ h was.
    let m = c.self.inside.machine in
    let may : may_dequeue (slice_get m.parties c.args.party) ≡ true = sym c.may_dequeue.ensures ∙ c.if-not-may_dequeue.false in
    let W = batch_law c.args.max h m c.args.party (subst (CoreMeets h) (sym c.self.view_is) was) may in
    rw (ap (λ d. d.0) c.take_batch-stop.ensures, ← c.self.view_is) (record { meets = W.meets; took = W.took })

pub returns-clause-all : goal.returns-clause-all
returns-clause-all g c = λ h was still mine.
    let m = c.self.inside.machine in
    let may : may_dequeue (slice_get m.parties c.args.party) ≡ true = sym c.may_dequeue.ensures ∙ c.if-not-may_dequeue.false in
    c.batch_or.ensures ∙ ap (λ d. batch_of (came_out d) (stop_of d)) c.take_batch-stop.ensures
    ∙ oldest_law h m c.args.party c.args.max (subst (CoreMeets h) (sym c.self.view_is) was) may (omega (arith, c.if-max-eq0.false)) still mine

pub returns-clause-busy : goal.returns-clause-busy
returns-clause-busy g c = λ h q was held ne.
    let m = c.self.inside.machine in
    let may : may_dequeue (slice_get m.parties c.args.party) ≡ true = sym c.may_dequeue.ensures ∙ c.if-not-may_dequeue.false in
    c.batch_or.ensures ∙ ap (λ d. batch_of (came_out d) (stop_of d)) c.take_batch-stop.ensures
    ∙ held_law h m c.args.party q c.args.max (subst (CoreMeets h) (sym c.self.view_is) was) held ne may
