use Rattle.std.proofs.Common.{Some, None, refl, subst}
use Rattle.cordyceps_heap.specs.Heap.{nodes_in}
use Rattle.cordyceps_c_base.proofs.Fitting.{ended_fits, there_is}
use Rattle.cordyceps_c_timers.specs.Queues.{Queued, Removes, slot_of}
use Rattle.cordyceps_c_timers.proofs.QueuesSaid.{none_has, removes, seen}
use Rattle.cordyceps_c_timers.proofs.queue.Queue.remove.Goals as goal

pub returns-in_err-spot : goal.returns-in_err-spot
returns-in_err-spot c =
    let was = c.self.inside in
    rw c.from_residual.ensures (subst (λ (q : Queued). Removes c.args.ticket None q q) c.self.view_is (none_has (nodes_in was.heap) was.tickets c.args.ticket c.self.invariant.fit c.in_err-spot.ensures, refl))

pub remove-item-requires : goal.remove-item-requires
remove-item-requires c =
    let was = c.self.inside in there_is slot_of was.tickets (nodes_in was.heap) c.args.ticket c.in_ok-spot.spot c.self.invariant.fit c.in_ok-spot.ensures

pub invariant_of-self : goal.invariant_of-self
invariant_of-self c =
    let was = c.self.inside in let new = c.remove-item.new.self in let kept = c.self.invariant in let told = c.remove-item.ensures in
    let (rest, (_, left)) = told.arrivals _ kept.arrivals refl kept.held in record {
      fit = ended_fits slot_of was.tickets c.into_item.new.tickets (nodes_in was.heap) (nodes_in new) c.in_ok-spot.spot c.remove-item.result kept.fit c.spots_are_distinct.ensures told.taken c.into_item.ensures.ended;
      arrivals = rest;
      held = left;
    }

pub returns : goal.returns
returns c =
    let was = c.self.inside in let new = c.remove-item.new.self in let kept = c.self.invariant in let told = c.remove-item.ensures in
    let (rest, (_, left)) = told.arrivals _ kept.arrivals refl kept.held in
    subst (λ (q : Queued). Removes c.args.ticket (Some c.into_item.result) q (seen new.lines c.into_item.new.tickets)) c.self.view_is
    (removes was.heap.lines new.lines was.tickets c.into_item.new.tickets kept.arrivals rest kept.held left c.in_ok-spot.spot c.remove-item.result c.args.ticket c.into_item.result kept.fit c.spots_are_distinct.ensures c.in_ok-spot.ensures
    told.taken c.into_item.ensures.item c.into_item.ensures.ended (λ a h. told.arrivals _ a refl h))
