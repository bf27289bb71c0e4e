-- The history of a queue: what its parties, of any type of names P, did to it, the oldest event first.
use Rattle.std.specs.Prelude.{◌≡◌, ℕ, suc, ◌+◌, ◌<◌, ◌≤◌, ◌≢◌, ◌⊎◌, List, [], ◌∷◌, ◌++◌, drop, length, flat_map}
use Rattle.std.specs.Prelude.{Option, Some, None, Bool, true, false}

pub data Event (P E : Type 0) : Type 0 where
  -- the party put its element last, and later made the one before lead to it
  Swap : P → E → Event P E
  Link : P → Event P E
  -- it took the right to dequeue, or another had it
  Take : P → Event P E
  Busy : P → Event P E
  -- it began a try: an element came out, or nothing was held
  Look : P → Event P E
  Out : P → E → Event P E
  Empty : P → Event P E
  -- it gave the right back
  Free : P → Event P E
  -- it rang the bell, or cleared it
  Ring : P → Event P E
  Clear : P → Event P E

-- tries of a party, each of which gave an element
abbrev pub outs : {P E : Type 0} → P → List E → List (Event P E)
outs p [] = []
outs p (e ∷ es) = Look p ∷ Out p e ∷ outs p es

module _ {P E : Type 0} where
  -- the party of an event
  abbrev pub actor : Event P E → P
  actor (Swap p e) = p
  actor (Link p) = p
  actor (Take p) = p
  actor (Busy p) = p
  actor (Look p) = p
  actor (Out p e) = p
  actor (Empty p) = p
  actor (Free p) = p
  actor (Ring p) = p
  actor (Clear p) = p

  -- the elements that an event puts in, and those that it takes out
  abbrev pub comes : Event P E → List E
  comes (Swap p e) = e ∷ []
  comes _ = []

  abbrev pub goes : Event P E → List E
  goes (Out p e) = e ∷ []
  goes _ = []

  -- the elements that were put in, and those that came out
  abbrev pub came : List (Event P E) → List E
  came h = flat_map comes h

  abbrev pub went : List (Event P E) → List E
  went h = flat_map goes h

  -- what came in without what went out, oldest first
  abbrev pub held : List (Event P E) → List E
  held h = drop (length (went h)) (came h)

  abbrev pub holder_after : Option P → Event P E → Option P
  holder_after o (Take p) = Some p
  holder_after o (Free p) = None
  holder_after o _ = o

  abbrev pub holder_from : Option P → List (Event P E) → Option P
  holder_from o [] = o
  holder_from o (x ∷ h) = holder_from (holder_after o x) h

  -- the party of a `Take` that has no `Free` after it
  abbrev pub holder : List (Event P E) → Option P
  holder h = holder_from None h

  -- what has to hold just before an event: `Take` and `Free` alternate, and only the holder tries
  abbrev pub MayFollow : List (Event P E) → Event P E → Type 0
  MayFollow h (Swap p e) = Unit {0}
  MayFollow h (Link p) = Unit {0}
  MayFollow h (Take p) = holder h ≡ None
  MayFollow h (Busy p) = (q : P) × (holder h ≡ Some q) × (p ≢ q)
  MayFollow h (Look p) = holder h ≡ Some p
  MayFollow h (Out p e) = holder h ≡ Some p
  MayFollow h (Empty p) = (holder h ≡ Some p) × (went h ≡ came h)
  MayFollow h (Free p) = holder h ≡ Some p
  MayFollow h (Ring p) = Unit {0}
  MayFollow h (Clear p) = Unit {0}

abbrev pub one_if_dec : {A : Type 0} → Dec A → ℕ
one_if_dec (yes a) = 1
one_if_dec (no n) = 0

-- n, and one more if the test is true and the choice is yes
abbrev pub more_if : {A : Type 0} → Bool → Dec A → ℕ → ℕ
more_if true d n = one_if_dec d + n
more_if false d n = n

module _ {P E : Type 0} where
  -- the kinds of events that are counted
  abbrev pub is_swap : Event P E → Bool
  is_swap (Swap p e) = true
  is_swap _ = false

  abbrev pub is_link : Event P E → Bool
  is_link (Link p) = true
  is_link _ = false

  abbrev pub is_look : Event P E → Bool
  is_look (Look p) = true
  is_look _ = false

  abbrev pub is_take : Event P E → Bool
  is_take (Take p) = true
  is_take _ = false

  abbrev pub is_free : Event P E → Bool
  is_free (Free p) = true
  is_free _ = false

  abbrev pub is_ring : Event P E → Bool
  is_ring (Ring p) = true
  is_ring _ = false

module _ {P E : Type 0} (same : Discrete P) where
  -- how many events of this kind are the party's
  abbrev pub count_of : (Event P E → Bool) → P → List (Event P E) → ℕ
  count_of kind q [] = 0
  count_of kind q (x ∷ h) = more_if (kind x) (same q (actor x)) (count_of kind q h)

  abbrev pub swaps_by : P → List (Event P E) → ℕ
  swaps_by q h = count_of is_swap q h

  abbrev pub links_by : P → List (Event P E) → ℕ
  links_by q h = count_of is_link q h

  abbrev pub looks_by : P → List (Event P E) → ℕ
  looks_by q h = count_of is_look q h

  abbrev pub rings_by : P → List (Event P E) → ℕ
  rings_by q h = count_of is_ring q h

  -- the party has one link fewer than swaps
  abbrev pub IsPending : P → List (Event P E) → Type 0
  IsPending q h = suc (links_by q h) ≡ swaps_by q h

  pub record IsLegal (h : List (Event P E)) : Type 0 where
    -- in every prefix what went out is a prefix of what came in
    pub in_order : (past later : List (Event P E)) → h ≡ past ++ later → (rest : List E)
        × (went past ++ rest ≡ came past)
    -- in every prefix each party has as many links as swaps, or one fewer
    pub links : (past later : List (Event P E)) → h ≡ past ++ later → (q : P) → (links_by q past ≡ swaps_by q past)
        ⊎ IsPending q past
    -- each event may follow those before it
    pub turns : (past later : List (Event P E)) (x : Event P E) → h ≡ past ++ x ∷ later → MayFollow past x
    -- a party that rings has as many links as swaps
    pub rings : (past later : List (Event P E)) (p : P) → h ≡ past ++ Ring p ∷ later → links_by p past ≡ swaps_by p past

  -- the oldest or the second oldest held element came by the last swap of a pending party
  pub record IsBlocked (h : List (Event P E)) : Type 0 where
    pub by : P
    pub pending : IsPending by h
    pub past : List (Event P E)
    pub element : E
    pub later : List (Event P E)
    pub is : h ≡ past ++ Swap by element ∷ later
    pub last : swaps_by by later ≡ 0
    pub held_there : length (went h) ≤ length (came past)
    pub near : length (came past) < length (went h) + 2

  -- some prefix that contains the party's last look is blocked
  pub record WasBlocked (q : P) (h : List (Event P E)) : Type 0 where
    pub past : List (Event P E)
    pub later : List (Event P E)
    pub is : h ≡ past ++ later
    pub looked : 0 < looks_by q past
    pub last : looks_by q later ≡ 0
    pub blocked : IsBlocked past
