-- The one line that spells a command of mode transfer.
use Rattle.std.specs.Prelude.{ℕ, ◌<◌, ◌^◌, List, [], ◌∷◌, codes, decimal}
use Rattle.std.specs.List.{join_with_byte}
use Rattle.replay_lines.specs.declared.transfer_command.TransferCommand.{TransferCommand}
use Rattle.replay_lines.specs.declared.transfer_command.TransferCommand.TheVariants as commands
use Rattle.replay_lines.specs.LineWords.{item_words, HasItemNumbers}

abbrev pub words_of : TransferCommand → List (List ℕ)
words_of commands.Party = codes "party" ∷ []
words_of (commands.Room p) = codes "room" ∷ decimal p ∷ []
words_of (commands.Load p item) = codes "load" ∷ decimal p ∷ item_words item
words_of (commands.SetNext p) = codes "setnext" ∷ decimal p ∷ []
words_of (commands.Exchange p) = codes "exch" ∷ decimal p ∷ []
words_of (commands.Take p) = codes "take" ∷ decimal p ∷ []
words_of (commands.Walk p) = codes "walk" ∷ decimal p ∷ []
words_of (commands.Push p item) = codes "push" ∷ decimal p ∷ item_words item
words_of (commands.TakeAll p) = codes "takeall" ∷ decimal p ∷ []

-- its words, separated by one space
abbrev pub spelling_of : TransferCommand → List ℕ
spelling_of command = join_with_byte 32 (words_of command)

-- its numbers are below 2 ^ 64
abbrev pub HasNumbers : TransferCommand → Type 0
HasNumbers commands.Party = Unit {0}
HasNumbers (commands.Room p) = p < 2 ^ 64
HasNumbers (commands.Load p item) = (p < 2 ^ 64) × HasItemNumbers item
HasNumbers (commands.SetNext p) = p < 2 ^ 64
HasNumbers (commands.Exchange p) = p < 2 ^ 64
HasNumbers (commands.Take p) = p < 2 ^ 64
HasNumbers (commands.Walk p) = p < 2 ^ 64
HasNumbers (commands.Push p item) = (p < 2 ^ 64) × HasItemNumbers item
HasNumbers (commands.TakeAll p) = p < 2 ^ 64
