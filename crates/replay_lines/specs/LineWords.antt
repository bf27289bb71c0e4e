-- What the words after a command word are read as, to the end of the line, and how these words are spelled.
use Rattle.std.specs.Prelude.{ℕ, ◌<◌, ◌^◌, List, [], ◌∷◌, Option, None, Some, decimal}
use Rattle.std.specs.Option.{option_map, option_and_then}
use Rattle.cordyceps_commands.specs.declared.item.Item.{Item}
use Rattle.replay_lines.specs.Words.{number_of, structure_number_of}

-- the one word
abbrev pub only_word_of : List (List ℕ) → Option (List ℕ)
only_word_of (word ∷ []) = Some word
only_word_of [] = None
only_word_of (word ∷ next ∷ words) = None

-- one word of a kind
abbrev pub only : {A : Type 0} → (List ℕ → Option A) → List (List ℕ) → Option A
only kind words = option_and_then kind (only_word_of words)

-- a word of a kind, and what is read after it
abbrev pub before : {A B : Type 0} → (List ℕ → Option A) → (List (List ℕ) → Option B) → List (List ℕ) → Option (A × B)
before kind rest [] = None
before kind rest (word ∷ words) = option_and_then (λ a. option_map (λ b. (a, b)) (rest words)) (kind word)

-- no words
abbrev pub no_word_of : List (List ℕ) → Option (Unit {0})
no_word_of [] = Some tt
no_word_of (word ∷ words) = None

-- the word S
abbrev pub structure_of : List (List ℕ) → Option ℕ
structure_of words = only structure_number_of words

-- the word V
abbrev pub value_of : List (List ℕ) → Option ℕ
value_of words = only number_of words

-- the words ID V
abbrev pub item_of : List (List ℕ) → Option Item
item_of words = option_map (λ x. record { value = x.1; id = x.0 }) (before number_of value_of words)

-- the words S M
abbrev pub two_structures_of : List (List ℕ) → Option (ℕ × ℕ)
two_structures_of words = before structure_number_of structure_of words

-- the words S ID V
abbrev pub structure_and_item_of : List (List ℕ) → Option (ℕ × Item)
structure_and_item_of words = before structure_number_of item_of words

-- the words P N
abbrev pub party_and_number_of : List (List ℕ) → Option (ℕ × ℕ)
party_and_number_of words = before number_of value_of words

-- the words P ID V
abbrev pub party_and_item_of : List (List ℕ) → Option (ℕ × Item)
party_and_item_of words = before number_of item_of words

-- no words, or the words ID V
abbrev pub perhaps_item_of : List (List ℕ) → Option (Option Item)
perhaps_item_of [] = Some None
perhaps_item_of (word ∷ words) = option_map (λ item. Some item) (item_of (word ∷ words))

-- the word P, or the words P ID V
abbrev pub party_and_perhaps_item_of : List (List ℕ) → Option (ℕ × Option Item)
party_and_perhaps_item_of words = before number_of perhaps_item_of words

-- the words ID V of an item
abbrev pub item_words : Item → List (List ℕ)
item_words item = decimal item.id ∷ decimal item.value ∷ []

-- the words of an item, if there is one
abbrev pub perhaps_item_words : Option Item → List (List ℕ)
perhaps_item_words None = []
perhaps_item_words (Some item) = item_words item

-- both are below 2 ^ 64
abbrev pub HasItemNumbers : Item → Type 0
HasItemNumbers item = (item.id < 2 ^ 64) × (item.value < 2 ^ 64)

abbrev pub HasPerhapsItemNumbers : Option Item → Type 0
HasPerhapsItemNumbers None = Unit {0}
HasPerhapsItemNumbers (Some item) = HasItemNumbers item
