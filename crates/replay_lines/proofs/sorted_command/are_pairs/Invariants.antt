use Rattle.std.proofs.Common.{◌≡◌, length}
use Rattle.std.specs.Prelude.{is_some}
use Rattle.replay_lines.specs.Words.{words_left}
use Rattle.replay_lines.specs.SortedScript.{pairs_of}
use Rattle.replay_lines.proofs.sorted_command.are_pairs.Given as goal

abbrev pub invariant-loop-word : goal.invariant-loop-word
invariant-loop-word l = is_some (pairs_of (words_left l.words.rest)) ≡ is_some (pairs_of (words_left l.fn.words.rest))

abbrev pub decreases-loop-word : goal.decreases-loop-word
decreases-loop-word l = length (words_left l.words.rest)
