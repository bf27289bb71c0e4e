use Rattle.std.proofs.Common.{◌≡◌, ◌++◌, length, reverse}
use Rattle.cordyceps_tables.proofs.replay.stacks.put_back.Given as goal

abbrev pub invariant-loop-node : goal.invariant-loop-node
invariant-loop-node l = reverse l.others ++ l.stack ≡ reverse l.fn.others ++ l.fn.stack

abbrev pub decreases-loop-node : goal.decreases-loop-node
decreases-loop-node l = length l.others
