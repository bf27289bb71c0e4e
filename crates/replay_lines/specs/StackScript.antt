-- The lines of mode stack.
use Rattle.std.specs.Prelude.{ℕ, List, [], ◌∷◌, Option, None, Some, if◌then◌else◌, codes}
use Rattle.std.specs.Option.{option_map, option_and_then}
use Rattle.std.specs.Str.{bytes_eq}
use Rattle.cordyceps_commands.specs.declared.stack_command.StackCommand.{StackCommand}
use Rattle.cordyceps_commands.specs.declared.stack_command.StackCommand.TheVariants as commands
use Rattle.replay_lines.specs.Words.{words}
use Rattle.replay_lines.specs.LineWords.{structure_of, two_structures_of, structure_and_item_of}
use Rattle.replay_lines.specs.declared.stack_command.Verb.{Verb}
use Rattle.replay_lines.specs.declared.stack_command.Verb.TheVariants as verbs

abbrev pub verb_of : List ℕ → Option Verb
verb_of word =
    if bytes_eq word (codes "push") then Some verbs.Push
    else if bytes_eq word (codes "pop") then Some verbs.Pop
    else if bytes_eq word (codes "take") then Some verbs.Take
    else if bytes_eq word (codes "empty") then Some verbs.Empty
    else if bytes_eq word (codes "drain") then Some verbs.Drain
    else None

-- what a command word and the words after it mean
abbrev pub command_with : Verb → List (List ℕ) → Option StackCommand
command_with verbs.Push words = option_map (λ x. commands.Push x.0 x.1) (structure_and_item_of words)
command_with verbs.Pop words = option_map (λ s. commands.Pop s) (structure_of words)
command_with verbs.Take words = option_map (λ x. commands.TakeAll x.0 x.1) (two_structures_of words)
command_with verbs.Empty words = option_map (λ s. commands.IsEmpty s) (structure_of words)
command_with verbs.Drain words = option_map (λ s. commands.Drain s) (structure_of words)

abbrev pub command_of_words : List (List ℕ) → Option StackCommand
command_of_words [] = None
command_of_words (verb ∷ words) = option_and_then (λ v. command_with v words) (verb_of verb)

-- what a line means; None where it is bad
abbrev pub command_of : List ℕ → Option StackCommand
command_of line = command_of_words (words line)
