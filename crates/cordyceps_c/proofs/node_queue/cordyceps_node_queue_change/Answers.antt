use Rattle.std.proofs.Common.{sym, subst}
use Rattle.cordyceps_base.specs.Nodes.{Nodes}
use Rattle.cordyceps_base.specs.BySpot.{HasSpot}
use Rattle.cordyceps_c_base.specs.declared.carried.Carried.{Carried}
use Rattle.cordyceps_c_timers.specs.NodeQueues.{ChangesValue}
use Rattle.cordyceps_c.proofs.node_queue.cordyceps_node_queue_change.Goals as goal

pub change-requires : goal.change-requires
change-requires c = subst (λ (l : Nodes Carried). HasSpot l c.args.at) (sym c.deref_mut.ensures.value) (c.requires.there c.take-held.result.value c.take-held.ensures.taken)

pub returns : goal.returns
returns c =
    let new = c.change.new.self in
    (c.take-held.result.value, new, c.take-held.ensures.taken, c.put.ensures, subst (λ (l : Nodes Carried). ChangesValue c.args.at c.args.value l new) c.deref_mut.ensures.value c.change.ensures)
