-- The lines of mode transfer.
use Rattle.std.specs.Prelude.{ℕ, List, [], ◌∷◌, Option, None, Some, if◌then◌else◌, codes}
use Rattle.std.specs.Option.{option_map, option_and_then}
use Rattle.std.specs.Str.{bytes_eq}
use Rattle.replay_lines.specs.Words.{words}
use Rattle.replay_lines.specs.LineWords.{no_word_of, value_of, party_and_item_of}
use Rattle.replay_lines.specs.declared.transfer_command.TransferCommand.{TransferCommand}
use Rattle.replay_lines.specs.declared.transfer_command.TransferCommand.TheVariants as commands
use Rattle.replay_lines.specs.declared.transfer_command.Verb.{Verb}
use Rattle.replay_lines.specs.declared.transfer_command.Verb.TheVariants as verbs

abbrev pub verb_of : List ℕ → Option Verb
verb_of word =
    if bytes_eq word (codes "party") then Some verbs.Party
    else if bytes_eq word (codes "room") then Some verbs.Room
    else if bytes_eq word (codes "load") then Some verbs.Load
    else if bytes_eq word (codes "setnext") then Some verbs.SetNext
    else if bytes_eq word (codes "exch") then Some verbs.Exchange
    else if bytes_eq word (codes "take") then Some verbs.Take
    else if bytes_eq word (codes "walk") then Some verbs.Walk
    else if bytes_eq word (codes "push") then Some verbs.Push
    else if bytes_eq word (codes "takeall") then Some verbs.TakeAll
    else None

-- what a command word and the words after it mean
abbrev pub command_with : Verb → List (List ℕ) → Option TransferCommand
command_with verbs.Party words = option_map (λ none. commands.Party) (no_word_of words)
command_with verbs.Room words = option_map (λ p. commands.Room p) (value_of words)
command_with verbs.Load words = option_map (λ x. commands.Load x.0 x.1) (party_and_item_of words)
command_with verbs.SetNext words = option_map (λ p. commands.SetNext p) (value_of words)
command_with verbs.Exchange words = option_map (λ p. commands.Exchange p) (value_of words)
command_with verbs.Take words = option_map (λ p. commands.Take p) (value_of words)
command_with verbs.Walk words = option_map (λ p. commands.Walk p) (value_of words)
command_with verbs.Push words = option_map (λ x. commands.Push x.0 x.1) (party_and_item_of words)
command_with verbs.TakeAll words = option_map (λ p. commands.TakeAll p) (value_of words)

abbrev pub command_of_words : List (List ℕ) → Option TransferCommand
command_of_words [] = None
command_of_words (word ∷ words) = option_and_then (λ verb. command_with verb words) (verb_of word)

-- what a line means; None where it is bad
abbrev pub command_of : List ℕ → Option TransferCommand
command_of line = command_of_words (words line)
