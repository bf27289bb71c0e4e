use Rattle.std.proofs.Common.{refl, sym, subst}
use Rattle.cordyceps_base.specs.Nodes.{Nodes}
use Rattle.cordyceps_base.specs.BySpot.{HasSpot, IsTaken}
use Rattle.cordyceps_c_base.specs.declared.carried.Carried.{Carried}
use Rattle.cordyceps_c_timers.proofs.NodeQueuesSaid.{removes, seen, waits_at}
use Rattle.cordyceps_c_timers.proofs.node_queue.NodeQueue.remove.Goals as goal

pub remove-requires : goal.remove-requires
remove-requires c = waits_at c.self.inside.heap.lines c.args.at (subst (λ (q : Nodes Carried). HasSpot q c.args.at) (sym c.self.view_is) c.requires)

pub invariant_of-self : goal.invariant_of-self
invariant_of-self c = let (a, held) = c.self.invariant in let (rest, (_, left)) = c.remove.ensures.arrivals _ a refl held in (rest, left)

pub returns : goal.returns
returns c =
    let new = c.remove.new.self in
    subst (λ (q : Nodes Carried). IsTaken q c.args.at c.remove.result (seen new.lines)) c.self.view_is
    (removes c.self.inside.heap.lines new.lines c.self.invariant c.args.at c.remove.result (λ a h. c.remove.ensures.arrivals _ a refl h))
