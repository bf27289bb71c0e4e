use Rattle.std.proofs.Common.{◌≡◌, ◌<◌, subst, MatchOption, ◌≤◌}
use Rattle.cordyceps_base.specs.Element.{Element}
use Rattle.cordyceps_base.specs.Nodes.{Nodes}
use Rattle.cordyceps_c_base.specs.declared.carried.Carried.{Carried}
use Rattle.cordyceps_c_base.proofs.NodesOut.{out_of}
use Rattle.cordyceps_c_timers.specs.NodeQueues.{Begins, value_of}
use Rattle.cordyceps_c.proofs.node_queue.cordyceps_node_queue_pop_until.Goals as goal

pub returns : goal.returns
returns c =
    let old = c.take-held.result.value in let new = c.pop_until-node.new.self in let most = c.args.most in
    let none = λ (l : Nodes Carried). (new ≡ l) × ((e : Element Carried) (rest : Nodes Carried) → Begins e l rest → most < value_of e.value) in
    let some = λ (l : Nodes Carried) (e : Element Carried). Begins e l new × (value_of e.value ≤ most) in
    let told = subst (λ (l : Nodes Carried). MatchOption c.pop_until-node.result (none l) (some l)) c.deref_mut.ensures.value c.pop_until-node.ensures.taken in
    (old, new, c.take-held.ensures.taken, c.put.ensures, out_of (none old) (some old) c.put_found.new.self.held c.pop_until-node.result c.put_found.result c.put_found.ensures told)
