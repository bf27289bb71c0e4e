use Rattle.std.proofs.Common.{length}
use Rattle.replay_lines.specs.Words.{words_left}
use Rattle.replay_lines.proofs.Pairs.{MorePairs}
use Rattle.replay_lines.proofs.sorted_command.pairs.Given as goal

abbrev pub invariant-loop-word : goal.invariant-loop-word
invariant-loop-word l = MorePairs l.items.items (words_left l.words.rest) (words_left l.fn.words.rest)

abbrev pub decreases-loop-word : goal.decreases-loop-word
decreases-loop-word l = length (words_left l.words.rest)
