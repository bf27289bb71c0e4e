-- What words of mode list are read as, and how they are spelled.
use Rattle.std.specs.Prelude.{ℕ, ◌||◌, List, [], ◌∷◌, map, length, Option, None, Some, if◌then◌else◌, codes, nat_lt}
use Rattle.std.specs.Prelude.{nat_eq}
use Rattle.std.specs.Option.{option_map, option_and_then}
use Rattle.std.specs.Str.{bytes_eq}
use Rattle.cordyceps_commands.specs.declared.list_command.ListEnd.{ListEnd}
use Rattle.cordyceps_commands.specs.declared.list_command.ListEnd.TheVariants as ends
use Rattle.cordyceps_commands.specs.declared.list_command.Turn.{Turn}
use Rattle.cordyceps_commands.specs.declared.list_command.Turn.TheVariants as turn_letters
use Rattle.cordyceps_commands.specs.declared.list_command.Filter.{Filter}
use Rattle.cordyceps_commands.specs.declared.list_command.Filter.TheVariants as filters
use Rattle.replay_lines.specs.Words.{number_of}
use Rattle.replay_lines.specs.LineWords.{only, before, structure_of, value_of}

-- an end of a list
abbrev pub end_of : List ℕ → Option ListEnd
end_of word =
    if bytes_eq word (codes "front") then Some ends.Front
    else if bytes_eq word (codes "back") then Some ends.Back
    else None

-- F
abbrev pub filter_of : List ℕ → Option Filter
filter_of word =
    if bytes_eq word (codes "even") then Some filters.Even
    else if bytes_eq word (codes "alt") then Some filters.Alternate
    else if bytes_eq word (codes "all") then Some filters.All
    else None

abbrev pub turn_of : ℕ → Option Turn
turn_of letter =
    if nat_eq letter 110 then Some turn_letters.Next
    else if nat_eq letter 98 then Some turn_letters.NextBack
    else None

-- each letter is n or b
abbrev pub letters_of : List ℕ → Option (List Turn)
letters_of [] = Some []
letters_of (letter ∷ letters) =
    option_and_then (λ turn. option_map (λ turns. turn ∷ turns) (letters_of letters)) (turn_of letter)

-- W, of 1 to 64 letters
abbrev pub turns_of : List ℕ → Option (List Turn)
turns_of word = if nat_eq (length word) 0 || nat_lt 64 (length word) then None else letters_of word

-- the word W
abbrev pub turns_word_of : List (List ℕ) → Option (List Turn)
turns_word_of words = only turns_of words

-- the words AT M
abbrev pub split_words_of : List (List ℕ) → Option (ℕ × ℕ)
split_words_of words = before number_of structure_of words

-- the words F K
abbrev pub drain_words_of : List (List ℕ) → Option (Filter × ℕ)
drain_words_of words = before filter_of value_of words

-- the words front and back
abbrev pub end_word_of : List (List ℕ) → Option ListEnd
end_word_of words = only end_of words

abbrev pub end_word : ListEnd → List ℕ
end_word ends.Front = codes "front"
end_word ends.Back = codes "back"

abbrev pub filter_word : Filter → List ℕ
filter_word filters.Even = codes "even"
filter_word filters.Alternate = codes "alt"
filter_word filters.All = codes "all"

abbrev pub letter_of : Turn → ℕ
letter_of turn_letters.Next = 110
letter_of turn_letters.NextBack = 98

-- W
abbrev pub turns_word : List Turn → List ℕ
turns_word turns = map letter_of turns
