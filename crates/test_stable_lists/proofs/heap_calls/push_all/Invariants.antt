use Rattle.std.proofs.Common.{◌≡◌}
use Rattle.test_stable_lists.proofs.heap_calls.push_all.Given as goal

abbrev pub invariant-loop-pair : goal.invariant-loop-pair
invariant-loop-pair g l = l.heap.order ≡ l.fn.heap.order
