-- The lines of a block of mode list.
use Rattle.std.specs.Prelude.{ℕ, List, [], ◌∷◌, Option, None, Some, if◌then◌else◌, codes}
use Rattle.std.specs.Option.{option_map, option_and_then}
use Rattle.std.specs.Str.{bytes_eq}
use Rattle.cordyceps_commands.specs.declared.list_command.CursorCommand.{CursorCommand}
use Rattle.cordyceps_commands.specs.declared.list_command.CursorCommand.TheVariants as lines
use Rattle.replay_lines.specs.declared.cursor_command.CursorVerb.{CursorVerb}
use Rattle.replay_lines.specs.declared.cursor_command.CursorVerb.TheVariants as verbs
use Rattle.replay_lines.specs.Words.{words}
use Rattle.replay_lines.specs.LineWords.{only, no_word_of, structure_of, value_of, item_of}
use Rattle.replay_lines.specs.ListWords.{filter_of}

-- the commands that are one word
abbrev pub bare_of : List ℕ → Option CursorCommand
bare_of word =
    if bytes_eq word (codes "next") then Some lines.MoveNext
    else if bytes_eq word (codes "prev") then Some lines.MovePrev
    else if bytes_eq word (codes "cur") then Some lines.Current
    else if bytes_eq word (codes "pnext") then Some lines.PeekNext
    else if bytes_eq word (codes "pprev") then Some lines.PeekPrev
    else if bytes_eq word (codes "index") then Some lines.Index
    else if bytes_eq word (codes "len") then Some lines.Len
    else if bytes_eq word (codes "step") then Some lines.Next
    else if bytes_eq word (codes "remove") then Some lines.RemoveCurrent
    else if bytes_eq word (codes "end") then Some lines.End
    else None

abbrev pub verb_of : List ℕ → Option CursorVerb
verb_of word =
    if bytes_eq word (codes "set") then Some verbs.Set
    else if bytes_eq word (codes "setn") then Some verbs.SetNext
    else if bytes_eq word (codes "setp") then Some verbs.SetPrev
    else if bytes_eq word (codes "first") then Some verbs.RemoveFirst
    else if bytes_eq word (codes "insa") then Some verbs.InsertAfter
    else if bytes_eq word (codes "insb") then Some verbs.InsertBefore
    else if bytes_eq word (codes "splita") then Some verbs.SplitAfter
    else if bytes_eq word (codes "splitb") then Some verbs.SplitBefore
    else if bytes_eq word (codes "splicea") then Some verbs.SpliceAfter
    else if bytes_eq word (codes "spliceb") then Some verbs.SpliceBefore
    else option_map (λ command. verbs.Bare command) (bare_of word)

-- what a command word and the words after it mean
abbrev pub command_with : CursorVerb → List (List ℕ) → Option CursorCommand
command_with (verbs.Bare command) words = option_map (λ none. command) (no_word_of words)
command_with verbs.Set words = option_map (λ value. lines.Set value) (value_of words)
command_with verbs.SetNext words = option_map (λ value. lines.SetNext value) (value_of words)
command_with verbs.SetPrev words = option_map (λ value. lines.SetPrev value) (value_of words)
command_with verbs.RemoveFirst words = option_map (λ filter. lines.RemoveFirst filter) (only filter_of words)
command_with verbs.InsertAfter words = option_map (λ item. lines.InsertAfter item) (item_of words)
command_with verbs.InsertBefore words = option_map (λ item. lines.InsertBefore item) (item_of words)
command_with verbs.SplitAfter words = option_map (λ list. lines.SplitAfter list) (structure_of words)
command_with verbs.SplitBefore words = option_map (λ list. lines.SplitBefore list) (structure_of words)
command_with verbs.SpliceAfter words = option_map (λ list. lines.SpliceAfter list) (structure_of words)
command_with verbs.SpliceBefore words = option_map (λ list. lines.SpliceBefore list) (structure_of words)

abbrev pub cursor_command_of_words : List (List ℕ) → Option CursorCommand
cursor_command_of_words [] = None
cursor_command_of_words (word ∷ words) = option_and_then (λ verb. command_with verb words) (verb_of word)

-- what a line means; None where it is bad
abbrev pub cursor_command_of : List ℕ → Option CursorCommand
cursor_command_of line = cursor_command_of_words (words line)
