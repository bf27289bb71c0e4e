use Rattle.std.proofs.Common.{◌<◌, length, ap, sym, ◌∙◌, subst, Some}
use Rattle.cordyceps_base.specs.Nodes.{Nodes}
use Rattle.cordyceps_c_base.specs.declared.carried.Carried.{Carried}
use Rattle.cordyceps_c_timers.specs.Arranged.{placed}
use Rattle.cordyceps_c_timers.specs.NodeQueues.{value_of}
use Rattle.cordyceps_c.proofs.node_queue.cordyceps_node_queue_push.Goals as goal

pub push-requires : goal.push-requires
push-requires c = subst (λ (l : Nodes Carried). length l < _) (sym c.deref_mut.ensures.value) (c.requires.fits c.take-held.result.value c.take-held.ensures.taken)

pub returns : goal.returns
returns c =
    let e = c.take_node.result in
    (c.take-held.result.value, e, c.take-held.ensures.taken, c.take_node.ensures.0, c.put.ensures ∙ ap Some c.push.ensures ∙ ap (λ (l : Nodes Carried). Some (placed value_of c.push.result e l)) c.deref_mut.ensures.value, c.take_node.ensures.1)
