-- Names and shares. A name is a finite word of 0 (false) and 1 (true), and represents all names that it is a prefix of.
-- A share (permission) is a list of names. A party acts under the first name of its share.
use Rattle.std.specs.Prelude.{◌≡◌, ◌≢◌, ℕ, List, [], ◌∷◌, ◌++◌, Bool, true, false, cond}
use Rattle.cordyceps_shared.specs.Counts.{tally, one_if}

abbrev pub Name : Type 0
Name = List Bool

-- the share of a party that took back all that were split off, the full permission: the empty word
abbrev pub whole : List Name
whole = [] ∷ []

abbrev pub first_name : List Name → Name
first_name [] = []
first_name (n ∷ ns) = n

-- a share gives up half of its first name, w: it keeps w0, and gives w1
abbrev pub keeps_half : List Name → List Name
keeps_half [] = []
keeps_half (n ∷ ns) = (n ++ false ∷ []) ∷ ns

abbrev pub gives_half : List Name → List Name
gives_half [] = []
gives_half (n ∷ ns) = (n ++ true ∷ []) ∷ []

abbrev pub same_bit : Bool → Bool → Bool
same_bit true b = b
same_bit false true = false
same_bit false false = true

-- the first name is a prefix of the second
abbrev pub is_prefix : Name → Name → Bool
is_prefix [] x = true
is_prefix (a ∷ us) [] = false
is_prefix (a ∷ us) (b ∷ bs) = cond (same_bit a b) (is_prefix us bs) false

-- how many names of the share are prefixes of x
abbrev pub covers : Name → List Name → ℕ
covers x names = tally (λ n. one_if (is_prefix n x)) names

-- of two names, neither of which is a prefix of the other, the first is before the second
abbrev pub earlier : Name → Name → Bool
earlier [] m = true
earlier (a ∷ us) [] = false
earlier (a ∷ us) (b ∷ bs) = cond (same_bit a b) (earlier us bs) b

-- a name in its place among names in order
abbrev pub insert_name : Name → List Name → List Name
insert_name n [] = n ∷ []
insert_name n (m ∷ ms) = cond (earlier n m) (n ∷ m ∷ ms) (m ∷ insert_name n ms)

abbrev pub insert_names : List Name → List Name → List Name
insert_names [] ms = ms
insert_names (n ∷ ns) ms = insert_name n (insert_names ns ms)

-- the names are w0 and w1, of some w
abbrev pub is_pair : Name → Name → Bool
is_pair [] m = false
is_pair (a ∷ us) [] = false
is_pair (a ∷ []) (b ∷ []) = cond a false b
is_pair (a ∷ []) (b ∷ c ∷ bs) = false
is_pair (a ∷ c ∷ us) (b ∷ []) = false
is_pair (a ∷ c ∷ us) (b ∷ d ∷ bs) = cond (same_bit a b) (is_pair (c ∷ us) (d ∷ bs)) false

-- a name without its last letter
abbrev pub parent : Name → Name
parent [] = []
parent (a ∷ []) = []
parent (a ∷ b ∷ us) = a ∷ parent (b ∷ us)

-- a name before others, with w in place of w0 and w1 while there are such
abbrev pub combine_first : Name → List Name → List Name
combine_first n [] = n ∷ []
combine_first n (m ∷ ms) = cond (is_pair n m) (combine_first (parent n) ms) (n ∷ m ∷ ms)

abbrev pub combine : List Name → List Name
combine [] = []
combine (n ∷ ns) = combine_first n (combine ns)

-- two shares as one, with w in place of w0 and w1 while there are such
abbrev pub join_shares : List Name → List Name → List Name
join_shares ns ms = combine (insert_names ns ms)

-- the name is before each of these
abbrev pub IsBefore : Name → List Name → Type 0
IsBefore n [] = Unit {0}
IsBefore n (m ∷ ms) = (earlier n m ≡ true) × IsBefore n ms

-- the name is a prefix of none of these, and none of these is a prefix of the name
abbrev pub Clear : Name → List Name → Type 0
Clear n [] = Unit {0}
Clear n (m ∷ ms) = (is_prefix n m ≡ false) × (is_prefix m n ≡ false) × Clear n ms

-- the shares have no name in common: no name of one is a prefix of a name of the other
abbrev pub NamesDisjoint : List Name → List Name → Type 0
NamesDisjoint [] ms = Unit {0}
NamesDisjoint (n ∷ ns) ms = Clear n ms × NamesDisjoint ns ms

-- the name is one of these, is a prefix of one, or has one as a prefix
abbrev pub IsOf : List Name → Name → Type 0
IsOf names n = Clear n names → ⊥

-- each name is before those after it, and none is a prefix of another
abbrev pub InOrder : List Name → Type 0
InOrder [] = Unit {0}
InOrder (n ∷ ns) = IsBefore n ns × Clear n ns × InOrder ns

-- no two neighbours are w0 and w1, of some w
abbrev pub NoPair : List Name → Type 0
NoPair [] = Unit {0}
NoPair (n ∷ []) = Unit {0}
NoPair (n ∷ m ∷ ms) = (is_pair n m ≡ false) × NoPair (m ∷ ms)

-- some names in order, none of which is a prefix of another, and no two of which are the halves of one
abbrev pub IsShare : List Name → Type 0
IsShare names = (names ≢ []) × InOrder names × NoPair names
