-- Histories read from their newest event back: what was before an event is the rest of the list. These forms go by
-- recursion on that list, and say the same as those of History on the list reversed.
use Rattle.std.specs.Prelude.{◌≡◌, ℕ, suc, ◌<◌, ◌≢◌, ◌⊎◌, List, [], ◌∷◌, ◌++◌, drop, length, Option, Some, None}
use Rattle.cordyceps_queue.specs.History.{Event, Swap, Link, Take, Busy, Look, Out, Empty, Free, Ring, Clear, holder_after}

-- the elements that came in, oldest first
abbrev pub came_reversed : {P E : Type 0} → List (Event P E) → List E
came_reversed [] = []
came_reversed (Swap p e ∷ h) = came_reversed h ++ e ∷ []
came_reversed (_ ∷ h) = came_reversed h

-- the elements that went out, oldest first
abbrev pub went_reversed : {P E : Type 0} → List (Event P E) → List E
went_reversed [] = []
went_reversed (Out p e ∷ h) = went_reversed h ++ e ∷ []
went_reversed (_ ∷ h) = went_reversed h

-- the elements that are held, oldest first
abbrev pub held_reversed : {P E : Type 0} → List (Event P E) → List E
held_reversed [] = []
held_reversed (Swap p e ∷ h) = held_reversed h ++ e ∷ []
held_reversed (Out p e ∷ h) = drop 1 (held_reversed h)
held_reversed (_ ∷ h) = held_reversed h

abbrev pub holder_reversed : {P E : Type 0} → List (Event P E) → Option P
holder_reversed [] = None
holder_reversed (x ∷ h) = holder_after (holder_reversed h) x

-- each swap of the party has its link
abbrev pub IsSettled : {P E : Type 0} → P → List (Event P E) → Type 0
IsSettled q [] = Unit {0}
IsSettled q (Swap p e ∷ h) = (q ≢ p) × IsSettled q h
IsSettled q (Link p ∷ h) = (q ≡ p) ⊎ IsSettled q h
IsSettled q (_ ∷ h) = IsSettled q h

-- the party has not linked its last swap
abbrev pub IsOpen : {P E : Type 0} → P → List (Event P E) → Type 0
IsOpen q [] = ⊥
IsOpen q (Swap p e ∷ h) = (q ≡ p) ⊎ ((q ≢ p) × IsOpen q h)
IsOpen q (Link p ∷ h) = (q ≢ p) × IsOpen q h
IsOpen q (_ ∷ h) = IsOpen q h

-- the party has not linked its last swap, whose element is at place n of what is held
abbrev pub IsPendingAt : {P E : Type 0} → P → ℕ → List (Event P E) → Type 0
IsPendingAt q n [] = ⊥
IsPendingAt q n (Swap p e ∷ h) = ((q ≡ p) × (n ≡ length (held_reversed h))) ⊎ ((q ≢ p) × IsPendingAt q n h)
IsPendingAt q n (Link p ∷ h) = (q ≢ p) × IsPendingAt q n h
IsPendingAt q n (Out p e ∷ h) = IsPendingAt q (suc n) h
IsPendingAt q n (_ ∷ h) = IsPendingAt q n h

-- the oldest or the second oldest held element came by a swap that is not linked
abbrev pub IsBlockedReversed : {P E : Type 0} → List (Event P E) → Type 0
IsBlockedReversed {P} h = (q : P) × (n : ℕ) × (n < 2) × IsPendingAt q n h

abbrev pub HasLooked : {P E : Type 0} → P → List (Event P E) → Type 0
HasLooked q [] = ⊥
HasLooked q (Look p ∷ h) = (q ≡ p) ⊎ HasLooked q h
HasLooked q (_ ∷ h) = HasLooked q h

-- the event is no look by the party
abbrev pub IsNoLook : {P E : Type 0} → P → Event P E → Type 0
IsNoLook q (Look p) = q ≢ p
IsNoLook q _ = Unit {0}

-- some prefix that contains the last look of the party is blocked
abbrev pub WasBlockedReversed : {P E : Type 0} → P → List (Event P E) → Type 0
WasBlockedReversed q [] = ⊥
WasBlockedReversed q (x ∷ h) =
    (HasLooked q (x ∷ h) × IsBlockedReversed (x ∷ h)) ⊎ (IsNoLook q x × WasBlockedReversed q h)

-- what has to hold just before an event
abbrev pub MayCome : {P E : Type 0} → Event P E → List (Event P E) → Type 0
MayCome (Swap p e) h = IsSettled p h
MayCome (Link p) h = IsOpen p h
MayCome (Take p) h = holder_reversed h ≡ None
MayCome {P} (Busy p) h = (q : P) × (holder_reversed h ≡ Some q) × (p ≢ q)
MayCome (Look p) h = holder_reversed h ≡ Some p
MayCome {P} {E} (Out p e) h = (holder_reversed h ≡ Some p) × (rest : List E) × (held_reversed h ≡ e ∷ rest)
MayCome (Empty p) h = (holder_reversed h ≡ Some p) × (held_reversed h ≡ [])
MayCome (Free p) h = holder_reversed h ≡ Some p
MayCome (Ring p) h = IsSettled p h
MayCome (Clear p) h = Unit {0}

abbrev pub IsLegalReversed : {P E : Type 0} → List (Event P E) → Type 0
IsLegalReversed [] = Unit {0}
IsLegalReversed (x ∷ h) = MayCome x h × IsLegalReversed h
