use Rattle.std.proofs.Common.{◌≡◌, [], ap, ◌∙◌, subst, MatchOption, ℕ, Some}
use Rattle.cordyceps_base.specs.Element.{Element}
use Rattle.cordyceps_base.specs.Nodes.{Nodes}
use Rattle.cordyceps_c_base.specs.declared.carried.Carried.{Carried}
use Rattle.cordyceps_c_base.proofs.Answering.{found}
use Rattle.cordyceps_c_timers.specs.NodeQueues.{Begins, value_of}
use Rattle.cordyceps_c.proofs.node_queue.cordyceps_node_queue_first.Goals as goal

pub returns : goal.returns
returns c =
    let old = c.take-held.result.value in
    let some = λ (l : Nodes Carried) (v : ℕ). (e : Element Carried) × (rest : Nodes Carried) × Begins e l rest × (v ≡ value_of e.value) in
    let told = subst (λ (l : Nodes Carried). MatchOption c.first-value.result (l ≡ []) (some l)) c.deref_mut.ensures.value c.first-value.ensures.first in
    (old, c.take-held.ensures.taken, c.put.ensures ∙ ap Some (c.first-value.ensures.kept ∙ c.deref_mut.ensures.value), found (old ≡ []) (some old) c.first-value.result c.write_found.result c.write_found.new.out c.args.out.now c.write_found.ensures told)
