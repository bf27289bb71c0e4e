use Rattle.std.proofs.Common.{◌≡◌, [], subst, MatchOption}
use Rattle.cordyceps_base.specs.Nodes.{Nodes}
use Rattle.cordyceps_c_base.specs.declared.carried.Carried.{Carried}
use Rattle.cordyceps_c_base.proofs.NodesOut.{out_of}
use Rattle.cordyceps_c_timers.specs.NodeQueues.{Begins}
use Rattle.cordyceps_c.proofs.node_queue.cordyceps_node_queue_pop.Goals as goal

pub returns : goal.returns
returns c =
    let old = c.take-held.result.value in let new = c.pop-node.new.self in
    let told = subst (λ (l : Nodes Carried). MatchOption c.pop-node.result ((l ≡ []) × (new ≡ [])) (λ e. Begins e l new)) c.deref_mut.ensures.value c.pop-node.ensures in
    (old, new, c.take-held.ensures.taken, c.put.ensures, out_of ((old ≡ []) × (new ≡ [])) (λ e. Begins e old new) c.put_found.new.self.held c.pop-node.result c.put_found.result c.put_found.ensures told)
