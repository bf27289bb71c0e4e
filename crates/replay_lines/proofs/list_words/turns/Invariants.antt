use Rattle.std.proofs.Common.{◌≡◌, ◌++◌, drop}
use Rattle.std.specs.Option.{option_map}
use Rattle.replay_lines.specs.ListWords.{letters_of}
use Rattle.replay_lines.proofs.list_words.turns.Given as goal

-- what is before the letter was read
abbrev pub invariant-loop-letter : goal.invariant-loop-letter
invariant-loop-letter l = letters_of l.word ≡ option_map (λ rest. l.turns.items ++ rest) (letters_of (drop l.letter-index l.word))
