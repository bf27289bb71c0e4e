use Rattle.std.proofs.Common.{◌≡◌}
use Rattle.test_stable_lists.proofs.sorted_calls.insert_all.Given as goal

abbrev pub invariant-loop-pair : goal.invariant-loop-pair
invariant-loop-pair g l = l.list.order ≡ l.fn.list.order
