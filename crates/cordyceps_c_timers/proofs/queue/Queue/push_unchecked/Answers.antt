use Rattle.std.proofs.Common.{◌∷◌, ◌++◌, [], Some, refl, ap, ◌∙◌, subst}
use Rattle.cordyceps_heap.specs.Heap.{nodes_in}
use Rattle.cordyceps_stable.proofs.Holding.{last_taken}
use Rattle.cordyceps_c_base.proofs.Fitting.{permuted_fits, put_without}
use Rattle.cordyceps_c_timers.specs.Queues.{PushesAt, Queued, slot_of}
use Rattle.cordyceps_c_timers.proofs.QueuesSaid.{pushes_at, seen}
use Rattle.cordyceps_c_timers.proofs.queue.Queue.push_unchecked.Goals as goal

pub invariant_of-self : goal.invariant_of-self
invariant_of-self c =
    let was = c.self.inside in let kept = c.self.invariant in let e = c.in-Ok.item in let p = c.push.result in
    let old = nodes_in was.heap in let all = old ++ (p, e) ∷ [] in
    let more = put_without slot_of was.tickets old all p e kept.fit (last_taken all old p e refl) (ap (λ (x : _). x.id) c.in-Ok.ensures.made ∙ ap (λ (k : _). k.number) c.none-none.ensures) in
    record {
      fit = permuted_fits slot_of was.tickets all (nodes_in c.push.new.self) c.push.ensures.kept more;
      arrivals = kept.arrivals ++ (p, e) ∷ [];
      held = c.push.ensures.arrivals _ kept.arrivals refl kept.held;
    }

pub returns : goal.returns
returns c =
    let was = c.self.inside in let new = c.push.new.self in let kept = c.self.invariant in let p = c.push.result in
    let is = c.in-Ok.ensures.made ∙ (λ i. record { id = (c.none-none.ensures i).number; value = record { key = c.args.key; payload = c.args.payload; slot = (c.none-none.ensures i).slot } }) in
    subst (λ (q : Queued). PushesAt c.args.key c.args.payload (Some p) q (seen new.lines was.tickets)) c.self.view_is
    (pushes_at was.heap.lines new.lines was.tickets was.tickets kept.arrivals (kept.arrivals ++ (p, c.in-Ok.item) ∷ []) kept.held (c.push.ensures.arrivals _ kept.arrivals refl kept.held)
    p c.in-Ok.item c.args.key c.args.payload is (λ a h. c.push.ensures.arrivals _ a refl h))
