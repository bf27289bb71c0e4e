use Rattle.std.proofs.Common.{◌≡◌}
use Rattle.test_trees.proofs.calls.insert_all.Given as goal

abbrev pub invariant-loop-pair : goal.invariant-loop-pair
invariant-loop-pair g l = l.tree.order ≡ l.fn.tree.order
