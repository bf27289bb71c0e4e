use Rattle.std.proofs.Common.{◌≡◌, ◌++◌, map}
use Rattle.cordyceps_channel.proofs.laws.push_batch.Given as goal

abbrev pub invariant-loop-element : goal.invariant-loop-element
invariant-loop-element g l = map g.T.Linked.element l.all.items ++ l.element-iterator ≡ map g.T.Linked.element l.initial.all.items ++ l.fn.batch
