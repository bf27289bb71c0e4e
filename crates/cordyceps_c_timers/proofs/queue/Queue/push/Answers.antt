use Rattle.std.proofs.Common.{◌+◌, ◌∷◌, ◌++◌, [], Some, refl, ap, ◌∙◌, subst}
use Rattle.cordyceps_heap.specs.Heap.{nodes_in}
use Rattle.cordyceps_stable.proofs.Holding.{last_taken}
use Rattle.cordyceps_c_base.proofs.Fitting.{permuted_fits, put_fits, same_fits}
use Rattle.cordyceps_c_timers.specs.Queues.{Pushes, Queued, slot_of}
use Rattle.cordyceps_c_timers.proofs.QueuesSaid.{pushes, seen}
use Rattle.cordyceps_c_timers.proofs.queue.Queue.push.Goals as goal

pub invariant_of-self : goal.invariant_of-self
invariant_of-self c =
    let was = c.self.inside in let told = c.in_err-ticket.ensures in let kept = c.self.invariant in record {
      fit = same_fits slot_of was.tickets c.reserve.new.self (nodes_in was.heap) kept.fit told.given told.same;
      arrivals = kept.arrivals;
      held = kept.held;
    }

pub invariant_of-self-in_default : goal.invariant_of-self-in_default
invariant_of-self-in_default c =
    let was = c.self.inside in let told = c.in_ok-ticket.ensures in let kept = c.self.invariant in record {
      fit = same_fits slot_of was.tickets c.reserve.new.self (nodes_in was.heap) kept.fit told.given told.same;
      arrivals = kept.arrivals;
      held = kept.held;
    }

pub invariant_of-self-2 : goal.invariant_of-self-2
invariant_of-self-2 c =
    let was = c.self.inside in let told = c.in_ok-ticket.ensures in let kept = c.self.invariant in let e = c.in-Ok.item in let p = c.push-spot.result in
    let old = nodes_in was.heap in let all = old ++ (p, e) ∷ [] in let k = c.in_ok-ticket.ticket in
    let fit = same_fits slot_of was.tickets c.reserve.new.self old kept.fit told.given told.same in
    let more = put_fits slot_of c.reserve.new.self c.give.new.self old all p e k fit told.next (last_taken all old p e refl) (ap (λ (x : _). slot_of x.value) c.in-Ok.ensures.made) (ap (λ (x : _). x.id) c.in-Ok.ensures.made) c.give.ensures.given c.give.ensures.put in
    record {
      fit = permuted_fits slot_of c.give.new.self all (nodes_in c.push-spot.new.self) c.push-spot.ensures.kept more;
      arrivals = kept.arrivals ++ (p, e) ∷ [];
      held = c.push-spot.ensures.arrivals _ kept.arrivals refl kept.held;
    }

pub returns : goal.returns
returns c =
    let was = c.self.inside in let new = c.push-spot.new.self in let told = c.in_ok-ticket.ensures in let kept = c.self.invariant in let k = c.in_ok-ticket.ticket in let p = c.push-spot.result in
    subst (λ (q : Queued). Pushes c.args.key c.args.payload (Some k) q (seen new.lines c.give.new.self)) c.self.view_is
    (pushes was.heap.lines new.lines was.tickets c.give.new.self kept.arrivals (kept.arrivals ++ (p, c.in-Ok.item) ∷ []) kept.held (c.push-spot.ensures.arrivals _ kept.arrivals refl kept.held)
    p c.in-Ok.item k c.args.key c.args.payload c.in-Ok.ensures.made (told.next.collection ∙ told.collection) (told.next.number ∙ ap (λ n. n + 1) told.given) (c.give.ensures.collection ∙ told.collection) c.give.ensures.given
    (λ a h. c.push-spot.ensures.arrivals _ a refl h))
