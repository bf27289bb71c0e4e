use Rattle.std.proofs.Common.{◌≡◌, drop}
use Rattle.std.specs.Prelude.{is_some}
use Rattle.replay_lines.specs.ListWords.{letters_of}
use Rattle.replay_lines.proofs.list_words.are_turns.Given as goal

abbrev pub invariant-loop-letter : goal.invariant-loop-letter
invariant-loop-letter l = is_some (letters_of (drop l.letter-index l.word)) ≡ is_some (letters_of l.word)
