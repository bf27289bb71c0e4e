use Rattle.cordyceps_c_timers.proofs.NodeQueuesSaid.{taken_arrivals, taken_said}
use Rattle.cordyceps_c_timers.proofs.node_queue.NodeQueue.pop.Goals as goal

pub invariant_of-self : goal.invariant_of-self
invariant_of-self c = taken_arrivals c.self.inside.heap c.pop_front.new.self c.self.invariant c.pop_front.result c.pop_front.ensures.taken

pub returns : goal.returns
returns c = taken_said c.self.inside.heap c.pop_front.new.self c.self.invariant c.args.self.now c.self.view_is c.pop_front.result c.pop_front.ensures.taken
