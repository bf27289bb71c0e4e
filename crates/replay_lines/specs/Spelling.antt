-- The one line that spells a command of mode list, outside of blocks.
use Rattle.std.specs.Prelude.{ℕ, ◌<◌, ◌≤◌, ◌^◌, List, [], ◌∷◌, length, codes, decimal}
use Rattle.std.specs.List.{join_with_byte}
use Rattle.cordyceps_commands.specs.declared.list_command.ListCommand.{ListCommand}
use Rattle.cordyceps_commands.specs.declared.list_command.ListCommand.TheVariants as commands
use Rattle.replay_lines.specs.LineWords.{item_words, HasItemNumbers}
use Rattle.replay_lines.specs.ListWords.{end_word, filter_word, turns_word}

-- its words; of a block, those of its first line
abbrev pub words_of : ListCommand → List (List ℕ)
words_of (commands.PushFront list item) = codes "pushf" ∷ decimal list ∷ item_words item
words_of (commands.PushBack list item) = codes "pushb" ∷ decimal list ∷ item_words item
words_of (commands.PopFront list) = codes "popf" ∷ decimal list ∷ []
words_of (commands.PopBack list) = codes "popb" ∷ decimal list ∷ []
words_of (commands.Front list) = codes "front" ∷ decimal list ∷ []
words_of (commands.Back list) = codes "back" ∷ decimal list ∷ []
words_of (commands.SetFront list value) = codes "setf" ∷ decimal list ∷ decimal value ∷ []
words_of (commands.SetBack list value) = codes "setb" ∷ decimal list ∷ decimal value ∷ []
words_of (commands.Len list) = codes "len" ∷ decimal list ∷ []
words_of (commands.Append list other) = codes "append" ∷ decimal list ∷ decimal other ∷ []
words_of (commands.Split list at other) = codes "split" ∷ decimal list ∷ decimal at ∷ decimal other ∷ []
words_of (commands.Remove list id) = codes "remove" ∷ decimal list ∷ decimal id ∷ []
words_of (commands.Bump list by) = codes "bump" ∷ decimal list ∷ decimal by ∷ []
words_of (commands.Walk list turns) = codes "walk" ∷ decimal list ∷ turns_word turns.items ∷ []
words_of (commands.Into list turns) = codes "into" ∷ decimal list ∷ turns_word turns.items ∷ []
words_of (commands.Drain list filter most) =
    codes "drain" ∷ decimal list ∷ filter_word filter ∷ decimal most ∷ []
words_of (commands.Show list) = codes "show" ∷ decimal list ∷ []
words_of (commands.Cursor list end lines) = codes "cursor" ∷ decimal list ∷ end_word end ∷ []

-- its words, separated by one space
abbrev pub spelling_of : ListCommand → List ℕ
spelling_of command = join_with_byte 32 (words_of command)

-- its numbers are below 2 ^ 64, and it has 1 to 64 turns
abbrev pub HasNumbers : ListCommand → Type 0
HasNumbers (commands.PushFront list item) = HasItemNumbers item
HasNumbers (commands.PushBack list item) = HasItemNumbers item
HasNumbers (commands.SetFront list value) = value < 2 ^ 64
HasNumbers (commands.SetBack list value) = value < 2 ^ 64
HasNumbers (commands.Split list at other) = at < 2 ^ 64
HasNumbers (commands.Remove list id) = id < 2 ^ 64
HasNumbers (commands.Bump list by) = by < 2 ^ 64
HasNumbers (commands.Walk list turns) = (0 < length turns.items) × (length turns.items ≤ 64)
HasNumbers (commands.Into list turns) = (0 < length turns.items) × (length turns.items ≤ 64)
HasNumbers (commands.Drain list filter most) = most < 2 ^ 64
HasNumbers command = Unit {0}
