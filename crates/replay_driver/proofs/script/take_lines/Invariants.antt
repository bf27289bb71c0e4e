use Rattle.std.proofs.Common.{◌≡◌, ℕ, ◌+◌, ◌-◌, ◌≤◌, length, drop}
use Rattle.replay_driver.specs.Steps.{SoFar}
use Rattle.replay_driver.proofs.script.take_lines.Given as goal

abbrev pub invariant-loop-length : goal.invariant-loop-length
invariant-loop-length g l = record {
  ready : g.S.Session.is_ready l.session;
  within : l.start ≤ length l.block;
  so_far : (n : ℕ) × (l.count ≡ l.initial.count + n) × (n ≤ l.start)
      × SoFar g.S.Session.machine g.O.Sink.takes l.block (drop l.start l.block)
      (record { state = g.S.Session.state l.fn.session; sink = l.fn.output; text = l.fn.text.items })
      (record { state = g.S.Session.state l.session; sink = l.output; text = l.text.items }) n;
}

abbrev pub decreases-loop-length : goal.decreases-loop-length
decreases-loop-length g l = length l.block - l.start
