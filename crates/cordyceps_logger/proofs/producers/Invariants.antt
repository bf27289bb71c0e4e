use Rattle.std.proofs.Common.{◌≡◌, length}
use Rattle.cordyceps_logger.proofs.producers.Given as goal

abbrev pub invariant-loop-code : goal.invariant-loop-code
invariant-loop-code l = length l.producers ≡ l.code
