use Rattle.std.proofs.Common.{◌≡◌, ◌≤◌, sym, subst}
use Rattle.cordyceps_clock.specs.Clock.{Clocked}
use Rattle.cordyceps_clock.proofs.Retimed.{are_same, retimed}
use Rattle.cordyceps_clock.proofs.clock_queue.ClockQueue.set_times.Goals as goal

pub invariant_of-self : goal.invariant_of-self
invariant_of-self g c =
    let was = c.self.inside in
    let callable = subst (λ (s : Clocked g.row.T.Denot g.row.O.Denot). g.O.Times.can_compute s.time) (sym c.self.view_is) c.requires.callable in
    let (of, own) = g.met.O.Times.computes was.times callable in
    let by = subst (λ (s : Clocked g.row.T.Denot g.row.O.Denot). g.O.Times.computes_by s.time of) c.self.view_is own in
    λ anew becomes.
    let same = subst (λ (s : Clocked g.row.T.Denot g.row.O.Denot). (v : g.row.T.Denot) → s.clock ≤ of v → anew v ≡ of v) (sym c.self.view_is) (c.requires.same of anew by becomes) in
    retimed of anew was.clock was.buckets.ends was.buckets.list (are_same of anew was.clock same was.buckets.list (c.self.invariant of own).times) (c.self.invariant of own)

pub returns-clause-due : goal.returns-clause-due
returns-clause-due g c of anew by becomes =
    let was = c.self.inside in
    let own = subst (λ (s : Clocked g.row.T.Denot g.row.O.Denot). g.O.Times.computes_by s.time of) (sym c.self.view_is) by in
    let same = subst (λ (s : Clocked g.row.T.Denot g.row.O.Denot). (v : g.row.T.Denot) → s.clock ≤ of v → anew v ≡ of v) (sym c.self.view_is) (c.requires.same of anew by becomes) in
    are_same of anew was.clock same was.buckets.list (c.self.invariant of own).times
