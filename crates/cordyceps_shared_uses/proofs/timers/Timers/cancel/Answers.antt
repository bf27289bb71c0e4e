use Rattle.std.proofs.Common.{ap, sym, ◌∙◌, subst}
use Rattle.cordyceps.specs.Spots.BySpot.{HasSpot, IsTaken}
use Rattle.cordyceps_shared_uses.specs.declared.timers.NotBefore.{NotBefore}
use Rattle.cordyceps_shared_uses.specs.Timers.{Running, arranged}
use Rattle.cordyceps_shared_uses.proofs.Arranging.{distinct, has, in_order, removed}
use Rattle.cordyceps_shared_uses.proofs.Deadlines.{times_are}
use Rattle.cordyceps_shared_uses.proofs.timers.Timers.cancel.Goals as goal

pub invariant_of-self : goal.invariant_of-self
invariant_of-self g c = record {
  order = in_order c.remove.new.self.clock c.remove.new.self.nodes;
  distinct = c.remove.ensures.distinct;
  counts = ap (λ (t : NotBefore). t.clock) c.remove.ensures.time ∙ c.self.invariant.counts ∙ sym c.remove.ensures.now;
}

pub remove-requires-clause-there : goal.remove-requires-clause-there
remove-requires-clause-there g c =
    let was = c.self.inside.queue in
    has was.clock was.nodes c.args.spot (subst (λ (t : Running g.row.P.Denot). HasSpot t.nodes c.args.spot) (sym c.self.view_is) c.requires)

pub returns-clause-taken : goal.returns-clause-taken
returns-clause-taken g c =
    let was = c.self.inside.queue in let left = c.remove.new.self in
    subst (λ (t : Running g.row.P.Denot). IsTaken t.nodes c.args.spot c.remove.result (arranged left.clock left.nodes)) c.self.view_is
    (subst (λ k. IsTaken (arranged was.clock was.nodes) c.args.spot c.remove.result (arranged k left.nodes)) (sym c.remove.ensures.now)
    (removed was.clock was.nodes left.nodes c.args.spot c.remove.result
    (λ a h. c.remove.ensures.arrivals _ a (times_are was.clock was.time.clock c.self.invariant.counts) h)))

pub returns-clause-distinct : goal.returns-clause-distinct
returns-clause-distinct g c = distinct c.remove.new.self.clock c.remove.new.self.nodes c.remove.ensures.distinct
