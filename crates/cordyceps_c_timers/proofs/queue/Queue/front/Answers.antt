use Rattle.std.proofs.Common.{Some, refl, sym, ◌∙◌, subst}
use Rattle.cordyceps_heap.specs.Heap.{nodes_in}
use Rattle.cordyceps_base.specs.Spots.{AreDistinct}
use Rattle.cordyceps_base.specs.Nodes.{spots}
use Rattle.cordyceps_stable.proofs.Holding.{unique}
use Rattle.cordyceps_c_base.proofs.Fitting.{permuted_fits}
use Rattle.cordyceps_c_timers.specs.Queues.{IsFirst, Queued, slot_of}
use Rattle.cordyceps_c_timers.proofs.QueuesSaid.{first, same_items}
use Rattle.cordyceps_c_timers.proofs.queue.Queue.front.Goals as goal

pub invariant_of-self-2 : goal.invariant_of-self-2
invariant_of-self-2 c =
    let was = c.self.inside in let new = c.front.new.self in let kept = c.self.invariant in let told = c.in_ok-spot.ensures in record {
      fit = permuted_fits slot_of was.tickets (nodes_in was.heap) (nodes_in new) told.kept kept.fit;
      arrivals = kept.arrivals;
      held = told.arrivals _ kept.arrivals refl kept.held;
    }

pub returns-clause-first : goal.returns-clause-first
returns-clause-first c =
    let was = c.self.inside in let new = c.front.new.self in let kept = c.self.invariant in let told = c.in_ok-spot.ensures in
    let (e, (front, back, lies), tells) = told.first in let (before, id, after, holds) = c.get-first.ensures in let w = c.get-first.result.now in
    let same = unique front back before after c.in_ok-spot.spot e (record { id = id; value = w }) (sym lies ∙ holds) (subst (λ l. AreDistinct (spots l)) lies told.distinct) in
    let (rest, is) = first was.heap.lines was.tickets kept.arrivals kept.held (c.in_ok-spot.spot, e) (λ a h. tells _ a refl h) in
    subst (λ (q : Queued). IsFirst (Some (record { key = w.key; payload = w.payload })) q) c.self.view_is
    (c.in_ok-spot.spot, e, rest, is, λ i. record { key = (sym same.1 i).value.key; payload = (sym same.1 i).value.payload })

pub returns-clause-kept : goal.returns-clause-kept
returns-clause-kept c =
    let was = c.self.inside in let new = c.front.new.self in let kept = c.self.invariant in let told = c.in_ok-spot.ensures in
    same_items was.heap.lines new.lines was.tickets was.tickets kept.arrivals kept.arrivals kept.held (told.arrivals _ kept.arrivals refl kept.held) (λ a h. told.arrivals _ a refl h) ∙ c.self.view_is
