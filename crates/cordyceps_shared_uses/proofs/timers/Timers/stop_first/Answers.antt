use Rattle.std.proofs.Common.{◌≡◌, ℕ, ◌≤◌, ◌∷◌, [], max, ap, sym, ◌∙◌, subst, arith}
use Rattle.cordyceps.specs.Elements.Nodes.{spots}
use Rattle.cordyceps.specs.Spots.Spots.{AreDistinct}
use Rattle.cordyceps_shared_uses.specs.declared.timers.NotBefore.{NotBefore}
use Rattle.cordyceps_shared_uses.specs.declared.timers.Timer.{Timer}
use Rattle.cordyceps_shared_uses.specs.Timers.{Running, InOrder, arranged, time_of}
use Rattle.cordyceps_shared_uses.proofs.Arranging.{arranged_same, distinct, in_order, popped, so}
use Rattle.cordyceps_shared_uses.proofs.Deadlines.{times_are}
use Rattle.cordyceps_shared_uses.proofs.timers.Timers.stop_first.Goals as goal

pub set_times-requires-clause-same : goal.set_times-requires-clause-same
set_times-requires-clause-same g c of anew by becomes value later =
    let at : (Timer g.row.P.Denot → ℕ) → ℕ = λ f. f value in
    omega (arith, later, c.pop_front-first.ensures.later, ap at by, ap at becomes, c.now-clock.ensures, ap (λ (t : NotBefore). t.clock) c.pop_front-first.ensures.time, c.self.invariant.counts)

pub invariant_of-self : goal.invariant_of-self
invariant_of-self g c =
    let set = c.set_times.ensures in record {
      order = in_order c.set_times.new.self.clock c.set_times.new.self.nodes;
      distinct = subst (λ l. AreDistinct (spots l)) (sym set.nodes) c.pop_front-first.ensures.distinct;
      counts = ap (λ (t : NotBefore). t.clock) set.time ∙ c.now-clock.ensures ∙ sym set.now;
    }

pub returns-clause-stopped : goal.returns-clause-stopped
returns-clause-stopped g c =
    let was = c.self.inside.queue in let left = c.pop_front-first.new.self in let new = c.set_times.new.self in let set = c.set_times.ensures in
    let view = ap (λ (t : Running g.row.P.Denot). t.nodes) c.self.view_is in
    let clock = ap (λ (t : Running g.row.P.Denot). t.clock) c.self.view_is in
    let counts = ap (λ (t : NotBefore). t.clock) c.pop_front-first.ensures.time ∙ c.self.invariant.counts in
    let fires = set.due _ _ (times_are was.clock left.time.clock counts) (times_are new.clock c.now-clock.result (c.now-clock.ensures ∙ sym set.now)) in
    let moved : arranged new.clock new.nodes ≡ arranged was.clock left.nodes = arranged_same was.clock new.clock new.nodes fires ∙ ap (arranged was.clock) set.nodes in
    let own = times_are was.clock was.time.clock c.self.invariant.counts in
    so c.pop_front-first.result c.pop_front-first.ensures.taken
    (λ none. let (empty, same) = none in
    let nodes = moved ∙ ap (λ (q : _). arranged was.clock q.nodes) same ∙ view in
    let time = set.now ∙ ap (λ (q : _). q.clock) same ∙ clock in
    (sym view ∙ ap (arranged was.clock) empty, λ i. record { nodes = nodes i; clock = time i }))
    (λ t some. let (spot, tells, _) = some in let (at, holds) = tells _ own in (
      spot,
      sym view ∙ popped was.clock was.nodes left.nodes spot t holds ∙ ap (λ l. (spot, t) ∷ l) (sym moved),
      set.now ∙ at ∙ ap (λ (r : Running g.row.P.Denot). time_of r.clock t) c.self.view_is,
    ))

pub returns-clause-order : goal.returns-clause-order
returns-clause-order g c = subst (λ (t : Running g.row.P.Denot). InOrder t.clock t.nodes) c.self.view_is c.self.invariant.order

pub returns-clause-distinct : goal.returns-clause-distinct
returns-clause-distinct g c =
    let new = c.set_times.new.self in
    distinct new.clock new.nodes (subst (λ l. AreDistinct (spots l)) (sym c.set_times.ensures.nodes) c.pop_front-first.ensures.distinct)
