use Rattle.std.proofs.Common.{◌≡◌, length}
use Rattle.cordyceps_logger.proofs.producer.Given as goal

abbrev pub invariant-loop-time : goal.invariant-loop-time
invariant-loop-time l = length l.records ≡ l.time
