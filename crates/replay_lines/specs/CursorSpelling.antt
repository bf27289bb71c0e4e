-- The one line that spells a command of a block.
use Rattle.std.specs.Prelude.{ℕ, ◌<◌, ◌^◌, List, [], ◌∷◌, codes, decimal}
use Rattle.std.specs.List.{join_with_byte}
use Rattle.cordyceps_commands.specs.declared.list_command.CursorCommand.{CursorCommand}
use Rattle.cordyceps_commands.specs.declared.list_command.CursorCommand.TheVariants as lines
use Rattle.replay_lines.specs.LineWords.{item_words, HasItemNumbers}
use Rattle.replay_lines.specs.ListWords.{filter_word}

abbrev pub words_of : CursorCommand → List (List ℕ)
words_of lines.MoveNext = codes "next" ∷ []
words_of lines.MovePrev = codes "prev" ∷ []
words_of lines.Current = codes "cur" ∷ []
words_of lines.PeekNext = codes "pnext" ∷ []
words_of lines.PeekPrev = codes "pprev" ∷ []
words_of lines.Index = codes "index" ∷ []
words_of lines.Len = codes "len" ∷ []
words_of (lines.Set value) = codes "set" ∷ decimal value ∷ []
words_of (lines.SetNext value) = codes "setn" ∷ decimal value ∷ []
words_of (lines.SetPrev value) = codes "setp" ∷ decimal value ∷ []
words_of lines.Next = codes "step" ∷ []
words_of lines.RemoveCurrent = codes "remove" ∷ []
words_of (lines.RemoveFirst filter) = codes "first" ∷ filter_word filter ∷ []
words_of (lines.InsertAfter item) = codes "insa" ∷ item_words item
words_of (lines.InsertBefore item) = codes "insb" ∷ item_words item
words_of (lines.SplitAfter list) = codes "splita" ∷ decimal list ∷ []
words_of (lines.SplitBefore list) = codes "splitb" ∷ decimal list ∷ []
words_of (lines.SpliceAfter list) = codes "splicea" ∷ decimal list ∷ []
words_of (lines.SpliceBefore list) = codes "spliceb" ∷ decimal list ∷ []
words_of lines.End = codes "end" ∷ []

-- its words, separated by one space
abbrev pub spelling_of : CursorCommand → List ℕ
spelling_of command = join_with_byte 32 (words_of command)

-- its numbers are below 2 ^ 64
abbrev pub HasNumbers : CursorCommand → Type 0
HasNumbers (lines.Set value) = value < 2 ^ 64
HasNumbers (lines.SetNext value) = value < 2 ^ 64
HasNumbers (lines.SetPrev value) = value < 2 ^ 64
HasNumbers (lines.InsertAfter item) = HasItemNumbers item
HasNumbers (lines.InsertBefore item) = HasItemNumbers item
HasNumbers command = Unit {0}
