use Rattle.std.proofs.Common.{◌≡◌, ◌++◌, map}
use Rattle.replay_sharing.proofs.share.values_in_order.Given as goal

abbrev pub invariant-loop-node : goal.invariant-loop-node
invariant-loop-node l = map (λ e. e.value.value) l.fn.items ≡ l.values.items ++ map (λ e. e.value.value) l.node-iterator
