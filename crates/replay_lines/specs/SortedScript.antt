-- The lines of mode sorted.
use Rattle.std.specs.Prelude.{ℕ, List, [], ◌∷◌, Option, None, Some, if◌then◌else◌, codes, nat_eq}
use Rattle.std.specs.Option.{option_map, option_and_then}
use Rattle.std.specs.List.{slice_split}
use Rattle.std.specs.Str.{bytes_eq}
use Rattle.cordyceps_commands.specs.declared.item.Item.{Item}
use Rattle.cordyceps_commands.specs.declared.sorted_command.SortedCommand.{SortedCommand}
use Rattle.cordyceps_commands.specs.declared.sorted_command.SortedCommand.TheVariants as commands
use Rattle.replay_lines.specs.Words.{words, structure_number_of}
use Rattle.replay_lines.specs.LineWords.{structure_of, item_of, structure_and_item_of}
use Rattle.replay_lines.specs.declared.sorted_command.Verb.{Verb}
use Rattle.replay_lines.specs.declared.sorted_command.Verb.TheVariants as verbs

-- what a line asks for, with the items of a stack as a list
pub data Entry : Type 0 where
  insert : ℕ → Item → Entry
  pop : ℕ → Entry
  show : ℕ → Entry
  from : ℕ → List Item → Entry

-- a command as what a line asks for
abbrev pub entry_for : SortedCommand → Entry
entry_for (commands.Insert list item) = insert list item
entry_for (commands.PopFront list) = pop list
entry_for (commands.Show list) = show list
entry_for (commands.FromStack list items) = from list items.items

abbrev pub verb_of : List ℕ → Option Verb
verb_of word =
    if bytes_eq word (codes "insert") then Some verbs.Insert
    else if bytes_eq word (codes "pop") then Some verbs.Pop
    else if bytes_eq word (codes "show") then Some verbs.Show
    else if bytes_eq word (codes "from") then Some verbs.From
    else None

-- the word ID:V
abbrev pub pair_of : List ℕ → Option Item
pair_of word = item_of (slice_split (λ b. nat_eq b 58) word)

-- such words
abbrev pub pairs_of : List (List ℕ) → Option (List Item)
pairs_of [] = Some []
pairs_of (word ∷ words) = option_and_then (λ item. option_map (λ items. item ∷ items) (pairs_of words)) (pair_of word)

-- the words L ID:V .., with one pair at least
abbrev pub structure_and_pairs_of : List (List ℕ) → Option (ℕ × List Item)
structure_and_pairs_of [] = None
structure_and_pairs_of (list ∷ []) = None
structure_and_pairs_of (list ∷ word ∷ words) =
    option_and_then (λ l. option_map (λ items. (l, items)) (pairs_of (word ∷ words))) (structure_number_of list)

-- what a command word and the words after it mean
abbrev pub entry_with : Verb → List (List ℕ) → Option Entry
entry_with verbs.Insert words = option_map (λ x. insert x.0 x.1) (structure_and_item_of words)
entry_with verbs.Pop words = option_map (λ l. pop l) (structure_of words)
entry_with verbs.Show words = option_map (λ l. show l) (structure_of words)
entry_with verbs.From words = option_map (λ x. from x.0 x.1) (structure_and_pairs_of words)

abbrev pub entry_of_words : List (List ℕ) → Option Entry
entry_of_words [] = None
entry_of_words (verb ∷ words) = option_and_then (λ v. entry_with v words) (verb_of verb)

-- what a line means; None where it is bad
abbrev pub entry_of : List ℕ → Option Entry
entry_of line = entry_of_words (words line)
