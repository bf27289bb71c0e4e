use Rattle.std.proofs.Common.{Some, refl, sym, subst}
use Rattle.cordyceps_heap.specs.Heap.{Heaped, nodes_in}
use Rattle.cordyceps_c_timers.specs.declared.queue.ByPriority.{ByPriority}
use Rattle.cordyceps_c_timers.specs.declared.queue.Ranked.{Ranked}
use Rattle.cordyceps_c_timers.specs.Queues.{AreKept, Pops, Queued, slot_of}
use Rattle.cordyceps_c_timers.proofs.QueuesSaid.{pops, seen}
use Rattle.cordyceps_c_timers.proofs.Ticketing.{popped_fits}
use Rattle.cordyceps_c_timers.proofs.queue.Queue.pop.Goals as goal

pub invariant_of-self : goal.invariant_of-self
invariant_of-self c = let (_, same) = c.in_err-item.ensures.taken in subst (λ (h : Heaped Ranked ByPriority). AreKept c.self.inside.tickets h.lines) (sym same) c.self.invariant

pub invariant_of-self-2 : goal.invariant_of-self-2
invariant_of-self-2 c =
    let was = c.self.inside in let new = c.pop_front.new.self in let kept = c.self.invariant in
    let (spot, same, tells) = c.in_ok-item.ensures.taken in let (rest, (_, left)) = tells _ kept.arrivals refl kept.held in record {
      fit = popped_fits slot_of was.tickets c.into_item.new.tickets (nodes_in was.heap) (nodes_in new) spot c.in_ok-item.item kept.fit c.spots_are_distinct.ensures same c.into_item.ensures.ended;
      arrivals = rest;
      held = left;
    }

pub returns : goal.returns
returns c =
    let was = c.self.inside in let new = c.pop_front.new.self in let kept = c.self.invariant in
    let (spot, same, tells) = c.in_ok-item.ensures.taken in let (rest, (_, left)) = tells _ kept.arrivals refl kept.held in
    subst (λ (q : Queued). Pops (Some c.into_item.result) q (seen new.lines c.into_item.new.tickets)) c.self.view_is
    (pops was.heap.lines new.lines was.tickets c.into_item.new.tickets kept.arrivals rest kept.held left spot c.in_ok-item.item c.into_item.result kept.fit c.spots_are_distinct.ensures
    c.into_item.ensures.item c.into_item.ensures.ended (λ a h. tells _ a refl h))
