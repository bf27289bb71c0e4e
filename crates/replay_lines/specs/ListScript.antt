-- The lines of mode list, outside of blocks.
use Rattle.std.specs.Prelude.{◌≡◌, ℕ, List, [], ◌∷◌, Option, None}
use Rattle.std.specs.Option.{option_map, option_and_then}
use Rattle.cordyceps_commands.specs.declared.list_command.ListEnd.{ListEnd}
use Rattle.cordyceps_commands.specs.declared.list_command.Turn.{Turn}
use Rattle.cordyceps_commands.specs.declared.list_command.CursorCommand.{CursorCommand}
use Rattle.cordyceps_commands.specs.declared.list_command.ListCommand.{ListCommand}
use Rattle.cordyceps_commands.specs.declared.list_command.ListCommand.TheVariants as commands
use Rattle.cordyceps_commands.specs.ListCommands.{Fits}
use Rattle.replay_lines.specs.declared.list_command.Verb.{Verb}
use Rattle.replay_lines.specs.declared.list_command.Verb.TheVariants as verbs
use Rattle.replay_lines.specs.Words.{words, structure_number_of}
use Rattle.replay_lines.specs.LineWords.{no_word_of, structure_of, value_of, item_of}
use Rattle.replay_lines.specs.ListWords.{turns_word_of, split_words_of, drain_words_of, end_word_of}
use Rattle.replay_lines.specs.ListVerbs.{verb_of}

-- What a line is: a command. One with a `Vec` is known by the list in it.
pub data Meaning : Type 0 where
  plain : ListCommand → Meaning
  walk : ℕ → List Turn → Meaning
  into : ℕ → List Turn → Meaning
  cursor : ℕ → ListEnd → List CursorCommand → Meaning

abbrev pub meaning_of_command : ListCommand → Meaning
meaning_of_command (commands.Walk list turns) = walk list turns.items
meaning_of_command (commands.Into list turns) = into list turns.items
meaning_of_command (commands.Cursor list end lines) = cursor list end lines.items
meaning_of_command command = plain command

-- what a command word, the number of its list and the words after that mean
abbrev pub meaning_with : Verb → ℕ → List (List ℕ) → Option Meaning
meaning_with verbs.PushFront list words = option_map (λ item. plain (commands.PushFront list item)) (item_of words)
meaning_with verbs.PushBack list words = option_map (λ item. plain (commands.PushBack list item)) (item_of words)
meaning_with verbs.PopFront list words = option_map (λ none. plain (commands.PopFront list)) (no_word_of words)
meaning_with verbs.PopBack list words = option_map (λ none. plain (commands.PopBack list)) (no_word_of words)
meaning_with verbs.Front list words = option_map (λ none. plain (commands.Front list)) (no_word_of words)
meaning_with verbs.Back list words = option_map (λ none. plain (commands.Back list)) (no_word_of words)
meaning_with verbs.SetFront list words = option_map (λ value. plain (commands.SetFront list value)) (value_of words)
meaning_with verbs.SetBack list words = option_map (λ value. plain (commands.SetBack list value)) (value_of words)
meaning_with verbs.Len list words = option_map (λ none. plain (commands.Len list)) (no_word_of words)
meaning_with verbs.Append list words = option_map (λ other. plain (commands.Append list other)) (structure_of words)
meaning_with verbs.Split list words = option_map (λ x. plain (commands.Split list x.0 x.1)) (split_words_of words)
meaning_with verbs.Remove list words = option_map (λ id. plain (commands.Remove list id)) (value_of words)
meaning_with verbs.Bump list words = option_map (λ by. plain (commands.Bump list by)) (value_of words)
meaning_with verbs.Walk list words = option_map (λ turns. walk list turns) (turns_word_of words)
meaning_with verbs.Into list words = option_map (λ turns. into list turns) (turns_word_of words)
meaning_with verbs.Drain list words = option_map (λ x. plain (commands.Drain list x.0 x.1)) (drain_words_of words)
meaning_with verbs.Show list words = option_map (λ none. plain (commands.Show list)) (no_word_of words)
meaning_with verbs.Cursor list words = option_map (λ end. cursor list end []) (end_word_of words)

-- the number of a structure, and what is read with it of the words after it
abbrev pub on_structure : {A : Type 0} → (ℕ → List (List ℕ) → Option A) → List (List ℕ) → Option A
on_structure read [] = None
on_structure read (word ∷ words) = option_and_then (λ list. read list words) (structure_number_of word)

abbrev pub meaning_of_words : List (List ℕ) → Option Meaning
meaning_of_words [] = None
meaning_of_words (word ∷ words) =
    option_and_then (λ verb. on_structure (λ list rest. meaning_with verb list rest) words) (verb_of word)

-- what a line means; None where it is bad
abbrev pub meaning_of : List ℕ → Option Meaning
meaning_of line = meaning_of_words (words line)

-- the lines of a block are no single line
abbrev pub IsOneLine : ListCommand → Type 0
IsOneLine (commands.Cursor list end lines) = lines.items ≡ []
IsOneLine command = Unit {0}

-- it names lists among sixteen, and is one line
abbrev pub LineFits : ListCommand → Type 0
LineFits command = Fits command × IsOneLine command
