use Rattle.std.proofs.Common.{◌≡◌, length}
use Rattle.test_stacks.proofs.asked.counts_what_it_asks.Given as goal

abbrev pub invariant-loop-number : goal.invariant-loop-number
invariant-loop-number g l = length l.list.elements ≡ l.number-index
