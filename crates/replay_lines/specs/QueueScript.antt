-- The lines of mode queue.
use Rattle.std.specs.Prelude.{ℕ, List, [], ◌∷◌, Option, None, Some, if◌then◌else◌, codes}
use Rattle.std.specs.Option.{option_map, option_and_then}
use Rattle.std.specs.Str.{bytes_eq}
use Rattle.replay_lines.specs.Words.{words}
use Rattle.replay_lines.specs.LineWords.{no_word_of, value_of, party_and_number_of, party_and_item_of}
use Rattle.replay_lines.specs.LineWords.{party_and_perhaps_item_of}
use Rattle.replay_lines.specs.declared.queue_command.QueueCommand.{QueueCommand}
use Rattle.replay_lines.specs.declared.queue_command.QueueCommand.TheVariants as commands
use Rattle.replay_lines.specs.declared.queue_command.Verb.{Verb}
use Rattle.replay_lines.specs.declared.queue_command.Verb.TheVariants as verbs

-- the words of whole calls
abbrev pub call_of : List ℕ → Option Verb
call_of word =
    if bytes_eq word (codes "party") then Some verbs.Party
    else if bytes_eq word (codes "room") then Some verbs.Room
    else if bytes_eq word (codes "enq") then Some verbs.Enqueue
    else if bytes_eq word (codes "deq") then Some verbs.Dequeue
    else if bytes_eq word (codes "batch") then Some verbs.Batch
    else None

abbrev pub verb_of : List ℕ → Option Verb
verb_of word =
    if bytes_eq word (codes "clear") then Some verbs.Clear
    else if bytes_eq word (codes "swap") then Some verbs.Swap
    else if bytes_eq word (codes "link") then Some verbs.Link
    else if bytes_eq word (codes "take") then Some verbs.Take
    else if bytes_eq word (codes "next") then Some verbs.ReadNext
    else if bytes_eq word (codes "head") then Some verbs.ReadHead
    else if bytes_eq word (codes "give") then Some verbs.Give
    else call_of word

-- what a command word and the words after it mean
abbrev pub command_with : Verb → List (List ℕ) → Option QueueCommand
command_with verbs.Party words = option_map (λ none. commands.Party) (no_word_of words)
command_with verbs.Room words = option_map (λ p. commands.Room p) (value_of words)
command_with verbs.Clear words = option_map (λ x. commands.Clear x.0 x.1) (party_and_perhaps_item_of words)
command_with verbs.Swap words = option_map (λ p. commands.Swap p) (value_of words)
command_with verbs.Link words = option_map (λ p. commands.Link p) (value_of words)
command_with verbs.Take words = option_map (λ p. commands.Take p) (value_of words)
command_with verbs.ReadNext words = option_map (λ p. commands.ReadNext p) (value_of words)
command_with verbs.ReadHead words = option_map (λ p. commands.ReadHead p) (value_of words)
command_with verbs.Give words = option_map (λ p. commands.Give p) (value_of words)
command_with verbs.Enqueue words = option_map (λ x. commands.Enqueue x.0 x.1) (party_and_item_of words)
command_with verbs.Dequeue words = option_map (λ p. commands.Dequeue p) (value_of words)
command_with verbs.Batch words = option_map (λ x. commands.Batch x.0 x.1) (party_and_number_of words)

abbrev pub command_of_words : List (List ℕ) → Option QueueCommand
command_of_words [] = None
command_of_words (word ∷ words) = option_and_then (λ verb. command_with verb words) (verb_of word)

-- what a line means; None where it is bad
abbrev pub command_of : List ℕ → Option QueueCommand
command_of line = command_of_words (words line)
