use Rattle.std.proofs.Common.{[], ap}
use Rattle.cordyceps_c_timers.specs.Arranged.{arranged}
use Rattle.cordyceps_c_timers.specs.NodeQueues.{value_of}
use Rattle.cordyceps_c_timers.proofs.node_queue.NodeQueue.new.Goals as goal

pub invariant_of-result : goal.invariant_of-result
invariant_of-result c = ([], c.new_with_order.ensures.arrivals _)

pub returns : goal.returns
returns c = ap (arranged value_of) c.new_with_order.ensures.nodes
