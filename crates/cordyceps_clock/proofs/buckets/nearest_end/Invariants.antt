use Rattle.std.proofs.Common.{◌≡◌, ℕ, ◌+◌, ◌≤◌, get_or, None}
use Rattle.cordyceps_clock.proofs.buckets.nearest_end.Given as goal

abbrev pub invariant-loop-above : goal.invariant-loop-above
invariant-loop-above l = (l.above ≤ l.k + 1) × ((i : ℕ) → l.above ≤ i → i ≤ l.k → get_or l.ends i None ≡ None)

abbrev pub decreases-loop-above : goal.decreases-loop-above
decreases-loop-above l = l.above
