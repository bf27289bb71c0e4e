use Rattle.std.proofs.Common.{◌≡◌, ◌++◌, Some, length, map, reverse}
use Rattle.cordyceps_base.specs.Element.{values}
use Rattle.cordyceps_tables.proofs.replay.stacks.drain.Given as goal

abbrev pub invariant-loop-node : goal.invariant-loop-node
invariant-loop-node l = record { kept : reverse l.taken ++ l.stack ≡ l.fn.stack; seen : l.items.items ≡ map Some (values (reverse l.taken)) }

abbrev pub decreases-loop-node : goal.decreases-loop-node
decreases-loop-node l = length l.stack
