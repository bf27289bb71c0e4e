use Rattle.std.proofs.Common.{◌≡◌, length}
use Rattle.replay_lines.specs.Words.{words_left}
use Rattle.replay_lines.specs.Reasons.{first_fault_of}
use Rattle.replay_lines.proofs.reason.first_fault.Given as goal

abbrev pub invariant-loop-word : goal.invariant-loop-word
invariant-loop-word l = first_fault_of (words_left l.words.rest) ≡ first_fault_of (words_left l.fn.words.rest)

abbrev pub decreases-loop-word : goal.decreases-loop-word
decreases-loop-word l = length (words_left l.words.rest)
