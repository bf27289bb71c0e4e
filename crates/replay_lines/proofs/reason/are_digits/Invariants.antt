use Rattle.std.proofs.Common.{◌≡◌, drop}
use Rattle.replay_lines.specs.Reasons.{digits_only}
use Rattle.replay_lines.proofs.reason.are_digits.Given as goal

abbrev pub invariant-loop-byte : goal.invariant-loop-byte
invariant-loop-byte l = digits_only (drop l.byte-index l.word) ≡ digits_only l.word
