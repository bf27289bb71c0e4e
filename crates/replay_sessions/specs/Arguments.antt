-- What the program's arguments ask for.
use Rattle.std.specs.Prelude.{◌≡◌, ◌≢◌, ℕ, List, [], ◌∷◌, Option, None, Some, codes}
use Rattle.replay_sessions.specs.declared.modes.Choice.{Choice}
use Rattle.replay_sessions.specs.declared.modes.Choice.TheVariants as choices

-- the word of a mode
abbrev pub word_of : Choice → List ℕ
word_of choices.List = codes "list"
word_of choices.Stack = codes "stack"
word_of choices.Sorted = codes "sorted"
word_of choices.Transfer = codes "transfer"
word_of choices.Queue = codes "queue"
word_of choices.Share = codes "share"

-- exactly one argument, which names the mode
abbrev pub Chooses : List (List ℕ) → Option Choice → Type 0
Chooses words (Some choice) = words ≡ word_of choice ∷ []
Chooses words None = (choice : Choice) → words ≢ word_of choice ∷ []
