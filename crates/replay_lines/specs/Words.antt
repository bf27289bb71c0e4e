-- The words of a line, and the numbers that they spell.
use Rattle.std.specs.Prelude.{ℕ, ◌+◌, ◌-◌, ◌*◌, ◌&&◌, List, [], ◌∷◌, Option, None, Some, if◌then◌else◌, nat_lt, nat_eq}
use denote.Ref.{Bor}
use Rattle.std.specs.Option.{option_and_then}
use Rattle.std.specs.Char.{is_ascii_digit}
use Rattle.std.specs.List.{slice_split}

-- what is between the spaces
abbrev pub words : List ℕ → List (List ℕ)
words line = slice_split (λ b. nat_eq b 32) line

abbrev pub words_left : Option (Bor (List ℕ)) → List (List ℕ)
words_left None = []
words_left (Some rest) = words rest.now

-- the number whose first digits are value, and whose others follow
abbrev pub number_from : ℕ → List ℕ → Option ℕ
number_from value [] = Some value
number_from value (digit ∷ digits) =
    if is_ascii_digit digit && nat_lt (value * 10 + (digit - 48)) 18446744073709551616 then
    number_from (value * 10 + (digit - 48)) digits else None

-- the number below 2 ^ 64 that a word spells in decimal: no word spells one with a leading zero, but 0 itself
abbrev pub number_of : List ℕ → Option ℕ
number_of [] = None
number_of (digit ∷ []) = number_from 0 (digit ∷ [])
number_of (digit ∷ next ∷ digits) = if nat_eq digit 48 then None else number_from 0 (digit ∷ next ∷ digits)

-- the number of one of sixteen structures
abbrev pub structure_number_of : List ℕ → Option ℕ
structure_number_of word = option_and_then (λ n. if nat_lt n 16 then Some n else None) (number_of word)
