use Rattle.std.proofs.Common.{refl, ap, sym, ◌∙◌, subst}
use Rattle.cordyceps_base.specs.Element.{Element}
use Rattle.cordyceps_base.specs.Nodes.{spots}
use Rattle.cordyceps_base.specs.Spots.{AreDistinct}
use Rattle.cordyceps_stable.proofs.Holding.{unique}
use Rattle.cordyceps_c_base.specs.declared.carried.Carried.{Carried}
use Rattle.cordyceps_c_timers.specs.NodeQueues.{value_of}
use Rattle.cordyceps_c_timers.proofs.NodeQueuesSaid.{first, stays}
use Rattle.cordyceps_c_timers.proofs.node_queue.NodeQueue.first.Goals as goal

pub invariant_of-self-2 : goal.invariant_of-self-2
invariant_of-self-2 c = let (a, held) = c.self.invariant in (a, c.in_ok-spot.ensures.arrivals _ a refl held)

pub returns-clause-first : goal.returns-clause-first
returns-clause-first c =
    let told = c.in_ok-spot.ensures in let (e, (front, back, lies), tells) = told.first in let (before, id, after, holds) = c.get.ensures in let w = c.get.result.now in
    let same = unique front back before after c.in_ok-spot.spot e (record { id = id; value = w }) (sym lies ∙ holds) (subst (λ l. AreDistinct (spots l)) lies told.distinct) in
    let (rest, is) = first c.self.inside.heap.lines c.self.invariant (c.in_ok-spot.spot, e) (λ a h. tells _ a refl h) in
    (e, rest, (c.in_ok-spot.spot, sym c.self.view_is ∙ is), ap (λ (x : Element Carried). value_of x.value) (sym same.1))

pub returns-clause-kept : goal.returns-clause-kept
returns-clause-kept c =
    let told = c.in_ok-spot.ensures in stays c.self.inside.heap.lines c.front.new.self.lines c.self.invariant (λ a h. told.arrivals _ a refl h) ∙ c.self.view_is
