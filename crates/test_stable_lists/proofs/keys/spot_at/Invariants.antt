use Rattle.std.proofs.Common.{◌≡◌}
use Rattle.test_stable_lists.proofs.keys.spot_at.Given as goal

abbrev pub invariant-loop : goal.invariant-loop
invariant-loop g l = l.cursor.nodes ≡ l.fn.cursor.nodes
