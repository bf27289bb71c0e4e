use Rattle.std.proofs.Common.{◌≡◌, drop}
use Rattle.replay_lines.specs.Reasons.{has_carriage_return}
use Rattle.replay_lines.proofs.reason.has_return.Given as goal

abbrev pub invariant-loop-byte : goal.invariant-loop-byte
invariant-loop-byte l = has_carriage_return (drop l.byte-index l.line) ≡ has_carriage_return l.line
