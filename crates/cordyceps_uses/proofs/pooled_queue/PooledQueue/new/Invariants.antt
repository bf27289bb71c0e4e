use Rattle.std.proofs.Common.{◌≡◌, length}
use Rattle.cordyceps_uses.proofs.pooled_queue.PooledQueue.new.Given as goal

abbrev pub invariant-loop : goal.invariant-loop
invariant-loop l = length l.pool ≡ l.counter
