use Rattle.std.proofs.Common.{◌≡◌, ℕ, max, subst}
use Rattle.cordyceps_shared_uses.specs.declared.timers.Timer.{Timer}
use Rattle.cordyceps_shared_uses.specs.Timers.{Running}
use Rattle.cordyceps_shared_uses.proofs.Deadlines.{times_are}
use Rattle.cordyceps_shared_uses.proofs.Sleeping.{IsBound, bounds}
use Rattle.cordyceps_shared_uses.proofs.timers.Timers.not_before.Goals as goal

-- what the bound of the queue says of the timers in their order
pub bound : (g : _) (c : goal.After-not_before g) → IsBound c.args.self.now.clock c.not_before.result c.args.self.now.nodes
bound g c =
    let was = c.self.inside.queue in
    let K : (Timer g.row.P.Denot → ℕ) → Type 0 = λ of. of ≡ (λ t. max t.deadline was.time.clock) in
    subst (λ (t : Running g.row.P.Denot). IsBound t.clock c.not_before.result t.nodes) c.self.view_is
    (bounds was.clock K was.nodes c.not_before.result (times_are was.clock was.time.clock c.self.invariant.counts)
    c.not_before.ensures.none_before c.not_before.ensures.near)

pub returns-clause-near : goal.returns-clause-near
returns-clause-near g c = (bound g c).near

pub returns-clause-none_before : goal.returns-clause-none_before
returns-clause-none_before g c = (bound g c).none_before

pub returns-clause-later : goal.returns-clause-later
returns-clause-later g c = (bound g c).later
