-- The one line that spells a command of mode queue.
use Rattle.std.specs.Prelude.{ℕ, ◌<◌, ◌^◌, List, [], ◌∷◌, codes, decimal}
use Rattle.std.specs.List.{join_with_byte}
use Rattle.replay_lines.specs.declared.queue_command.QueueCommand.{QueueCommand}
use Rattle.replay_lines.specs.declared.queue_command.QueueCommand.TheVariants as commands
use Rattle.replay_lines.specs.LineWords.{item_words, perhaps_item_words, HasItemNumbers, HasPerhapsItemNumbers}

abbrev pub words_of : QueueCommand → List (List ℕ)
words_of commands.Party = codes "party" ∷ []
words_of (commands.Room p) = codes "room" ∷ decimal p ∷ []
words_of (commands.Clear p item) = codes "clear" ∷ decimal p ∷ perhaps_item_words item
words_of (commands.Swap p) = codes "swap" ∷ decimal p ∷ []
words_of (commands.Link p) = codes "link" ∷ decimal p ∷ []
words_of (commands.Take p) = codes "take" ∷ decimal p ∷ []
words_of (commands.ReadNext p) = codes "next" ∷ decimal p ∷ []
words_of (commands.ReadHead p) = codes "head" ∷ decimal p ∷ []
words_of (commands.Give p) = codes "give" ∷ decimal p ∷ []
words_of (commands.Enqueue p item) = codes "enq" ∷ decimal p ∷ item_words item
words_of (commands.Dequeue p) = codes "deq" ∷ decimal p ∷ []
words_of (commands.Batch p n) = codes "batch" ∷ decimal p ∷ decimal n ∷ []

-- its words, separated by one space
abbrev pub spelling_of : QueueCommand → List ℕ
spelling_of command = join_with_byte 32 (words_of command)

-- its numbers are below 2 ^ 64
abbrev pub HasNumbers : QueueCommand → Type 0
HasNumbers commands.Party = Unit {0}
HasNumbers (commands.Room p) = p < 2 ^ 64
HasNumbers (commands.Clear p item) = (p < 2 ^ 64) × HasPerhapsItemNumbers item
HasNumbers (commands.Swap p) = p < 2 ^ 64
HasNumbers (commands.Link p) = p < 2 ^ 64
HasNumbers (commands.Take p) = p < 2 ^ 64
HasNumbers (commands.ReadNext p) = p < 2 ^ 64
HasNumbers (commands.ReadHead p) = p < 2 ^ 64
HasNumbers (commands.Give p) = p < 2 ^ 64
HasNumbers (commands.Enqueue p item) = (p < 2 ^ 64) × HasItemNumbers item
HasNumbers (commands.Dequeue p) = p < 2 ^ 64
HasNumbers (commands.Batch p n) = (p < 2 ^ 64) × (n < 2 ^ 64)
