use Rattle.std.proofs.Common.{◌∷◌, ◌++◌, [], length, refl, ap, ◌∙◌, arith}
use Rattle.cordyceps_heap.specs.Heap.{nodes_in}
use Rattle.cordyceps_c_timers.specs.Arranged.{placed}
use Rattle.cordyceps_c_timers.specs.NodeQueues.{value_of}
use Rattle.cordyceps_c_timers.proofs.Arranging.{as_long}
use Rattle.cordyceps_c_timers.proofs.NodeQueuesSaid.{pushes}
use Rattle.cordyceps_c_timers.proofs.node_queue.NodeQueue.push.Goals as goal

pub push-requires : goal.push-requires
push-requires c = let few = c.requires in let same = as_long value_of (nodes_in c.self.inside.heap) in let seen = ap length c.self.view_is in omega (arith, few, same, seen)

pub invariant_of-self : goal.invariant_of-self
invariant_of-self c = let (a, held) = c.self.invariant in (a ++ (c.push.result, c.args.node) ∷ [], c.push.ensures.arrivals _ a refl held)

pub returns : goal.returns
returns c =
    let was = c.self.inside in let p = c.push.result in
    pushes was.heap.lines c.push.new.self.lines c.self.invariant p c.args.node (λ a h. c.push.ensures.arrivals _ a refl h) ∙ ap (placed value_of p c.args.node) c.self.view_is
