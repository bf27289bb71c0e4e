use Rattle.std.proofs.Common.{◌≡◌, ℕ, [], length}
use Rattle.cordyceps_base.specs.Nodes.{Nodes}
use Rattle.cordyceps_clock.specs.Buckets.{number_at, AreDue, IsSpreading}
use Rattle.cordyceps_clock.proofs.Spreads.{Spread}
use Rattle.cordyceps_clock.proofs.buckets.Buckets.spread.Given as goal

abbrev pub invariant-loop-left : goal.invariant-loop-left
invariant-loop-left g l =
    (of : g.row.T.Denot → ℕ) (j : ℕ) (ahead others : Nodes g.row.T.Denot) → g.O.Times.computes_by l.times of → length ahead ≡ l.len → AreDue of l.clock ahead → IsSpreading (number_at of l.clock) l.fn.self.ends l.fn.self.list j [] ahead others
    → Spread of l.clock l.self.ends l.self.list j ahead others l.next l.left l.top

abbrev pub decreases-loop-left : goal.decreases-loop-left
decreases-loop-left g l = l.left
