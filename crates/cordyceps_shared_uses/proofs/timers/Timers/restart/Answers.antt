use Rattle.std.proofs.Common.{ℕ, length, ap, ◌∙◌, sym, arith}
use Rattle.cordyceps_shared_uses.specs.declared.timers.NotBefore.{NotBefore}
use Rattle.cordyceps_shared_uses.specs.declared.timers.Timer.{Timer}
use Rattle.cordyceps_shared_uses.specs.Timers.{Running, arranged, started}
use Rattle.cordyceps_shared_uses.proofs.Arranging.{as_long, distinct, in_order, pushed}
use Rattle.cordyceps_shared_uses.proofs.Deadlines.{times_are}
use Rattle.cordyceps_shared_uses.proofs.timers.Timers.restart.Goals as goal

pub invariant_of-self : goal.invariant_of-self
invariant_of-self g c = record {
  order = in_order c.push.new.self.clock c.push.new.self.nodes;
  distinct = c.push.ensures.distinct;
  counts = ap (λ (t : NotBefore). t.clock) c.push.ensures.time ∙ c.self.invariant.counts ∙ sym c.push.ensures.now;
}

pub push-requires-clause-due : goal.push-requires-clause-due
push-requires-clause-due g c of by =
    let timer : Timer g.row.P.Denot = c.args.timer.value in
    omega (arith, c.self.invariant.counts, ap (λ (f : Timer g.row.P.Denot → ℕ). f timer) by)

pub returns-then-len-clause-succeeds : goal.returns-then-len-clause-succeeds
returns-then-len-clause-succeeds g c =
    let was = c.self.inside.queue in
    λ few. absurd (omega (arith, few, c.len.ensures, c.if-len.true, as_long was.clock was.nodes, ap (λ (t : Running g.row.P.Denot). length t.nodes) c.self.view_is))

pub returns-clause-started : goal.returns-clause-started
returns-clause-started g c =
    let was = c.self.inside.queue in
    ap (λ k. arranged k c.push.new.self.nodes) c.push.ensures.now
    ∙ pushed was.clock was.nodes c.push.new.self.nodes c.push.result c.args.timer
    (λ a h. c.push.ensures.arrivals _ a (times_are was.clock was.time.clock c.self.invariant.counts) h)
    ∙ ap (λ (t : Running g.row.P.Denot). started t.clock c.push.result c.args.timer t.nodes) c.self.view_is

pub returns-clause-distinct : goal.returns-clause-distinct
returns-clause-distinct g c = distinct c.push.new.self.clock c.push.new.self.nodes c.push.ensures.distinct
