use Rattle.std.proofs.Common.{refl, sym, subst}
use Rattle.cordyceps_base.specs.BySpot.{HasSpot}
use Rattle.cordyceps_heap.specs.Heap.{nodes_in}
use Rattle.cordyceps_c_base.proofs.Fitting.{ended_fits}
use Rattle.cordyceps_c_timers.specs.Queues.{Queued, RemovesAt, slot_of}
use Rattle.cordyceps_c_timers.proofs.QueuesSaid.{removes_at, seen, waits_at}
use Rattle.cordyceps_c_timers.proofs.queue.Queue.remove_unchecked.Goals as goal

pub remove-item-requires : goal.remove-item-requires
remove-item-requires c = waits_at (nodes_in c.self.inside.heap) c.args.at (subst (λ (q : Queued). HasSpot q.nodes c.args.at) (sym c.self.view_is) c.requires)

pub invariant_of-self : goal.invariant_of-self
invariant_of-self c =
    let was = c.self.inside in let new = c.remove-item.new.self in let kept = c.self.invariant in let told = c.remove-item.ensures in
    let (rest, (_, left)) = told.arrivals _ kept.arrivals refl kept.held in record {
      fit = ended_fits slot_of was.tickets c.into_item.new.tickets (nodes_in was.heap) (nodes_in new) c.args.at c.remove-item.result kept.fit c.spots_are_distinct.ensures told.taken c.into_item.ensures.ended;
      arrivals = rest;
      held = left;
    }

pub returns : goal.returns
returns c =
    let was = c.self.inside in let new = c.remove-item.new.self in let kept = c.self.invariant in let told = c.remove-item.ensures in
    let (rest, (_, left)) = told.arrivals _ kept.arrivals refl kept.held in
    subst (λ (q : Queued). RemovesAt c.args.at c.into_item.result q (seen new.lines c.into_item.new.tickets)) c.self.view_is
    (removes_at was.heap.lines new.lines was.tickets c.into_item.new.tickets kept.arrivals rest kept.held left c.args.at c.remove-item.result c.into_item.result kept.fit c.spots_are_distinct.ensures
    c.into_item.ensures.item c.into_item.ensures.ended (λ a h. told.arrivals _ a refl h))
