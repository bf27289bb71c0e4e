use Rattle.std.proofs.Common.{◌≡◌, ◌∷◌, ◌++◌, [], refl, ap, sym, ◌∙◌, subst}
use Rattle.cordyceps_base.specs.Element.{Element}
use Rattle.cordyceps_base.specs.Nodes.{Nodes}
use Rattle.cordyceps_base.specs.BySpot.{HasSpot}
use Rattle.cordyceps_c_base.specs.declared.carried.Carried.{Carried}
use Rattle.cordyceps_c_timers.specs.Arranged.{placed}
use Rattle.cordyceps_c_timers.specs.NodeQueues.{ChangesValue, value_of, with_value}
use Rattle.cordyceps_c_timers.proofs.NodeQueuesSaid.{changes, seen, waits_at}
use Rattle.cordyceps_c_timers.proofs.node_queue.NodeQueue.change.Goals as goal

pub update-requires-clause-there : goal.update-requires-clause-there
update-requires-clause-there c = waits_at c.self.inside.heap.lines c.args.at (subst (λ (q : Nodes Carried). HasSpot q c.args.at) (sym c.self.view_is) c.requires)

pub invariant_of-self : goal.invariant_of-self
invariant_of-self c =
    let (a, held) = c.self.invariant in let (e, w, rest, returns, taken, same, tells) = c.update.ensures.changed in
    let n : Element Carried = record { id = e.id; value = w } in let (left, (_, lies)) = tells _ a refl held in (left ++ (c.args.at, n) ∷ [], lies)

pub returns : goal.returns
returns c =
    let new = c.update.new.self in let p = c.args.at in let (e, w, rest, returns, taken, same, tells) = c.update.ensures.changed in
    let n : Element Carried = record { id = e.id; value = w } in
    let value : value_of w ≡ c.args.value = ap value_of (sym returns.leaves) ∙ returns.met in
    let is : n ≡ with_value c.args.value e = λ i. record { id = e.id; value = record { value = value i } } in
    let (others, out, put) = changes c.self.inside.heap.lines new.lines c.self.invariant p e n (λ a h. tells _ a refl h) in
    subst (λ (q : Nodes Carried). ChangesValue p c.args.value q (seen new.lines)) c.self.view_is
    (e, others, out, subst (λ (x : Element Carried). seen new.lines ≡ placed value_of p x others) is put)
