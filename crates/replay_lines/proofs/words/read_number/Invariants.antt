use Rattle.std.proofs.Common.{◌≡◌, drop}
use Rattle.replay_lines.specs.Words.{number_from, number_of}
use Rattle.replay_lines.proofs.words.read_number.Given as goal

abbrev pub invariant-loop-digit : goal.invariant-loop-digit
invariant-loop-digit l = number_from l.value (drop l.digit-index l.word) ≡ number_of l.word
