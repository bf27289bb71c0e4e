use Rattle.std.proofs.Common.{sym, subst}
use Rattle.cordyceps_base.specs.Nodes.{Nodes}
use Rattle.cordyceps_base.specs.BySpot.{HasSpot, IsTaken}
use Rattle.cordyceps_c_base.specs.declared.carried.Carried.{Carried}
use Rattle.cordyceps_c.proofs.node_queue.cordyceps_node_queue_remove.Goals as goal

pub remove-node-requires : goal.remove-node-requires
remove-node-requires c = subst (λ (l : Nodes Carried). HasSpot l c.args.at) (sym c.deref_mut.ensures.value) (c.requires.there c.take-held.result.value c.take-held.ensures.taken)

pub returns : goal.returns
returns c =
    let new = c.remove-node.new.self in let e = c.remove-node.result in
    (c.take-held.result.value, e, new, c.take-held.ensures.taken, c.put.ensures, c.put_node.ensures, subst (λ (l : Nodes Carried). IsTaken l c.args.at e new) c.deref_mut.ensures.value c.remove-node.ensures)
