-- What holds of a place: a table with one word and one slot, in which a thread leaves a value for another.
use Rattle.std.specs.Prelude.{◌≡◌, ◌≢◌, ◌⊎◌, ℕ, List, [], ◌∷◌, Bool, true, false, Option, Some, None}
use mathlib.Core.Option.{some, none}
use lib.ListN.{get_elem?}
use Rattle.atomic_table.specs.Table.{State, Step, Me}
use Rattle.atomic_table.specs.Seated.{TableId}

-- what a contract sees of a handle of a place: the key of the place, and whether it has taken the value out
pub record PlaceOf (K : Type 0) : Type 0 where
  pub key : K
  pub took : Bool

abbrev pub same_key : {K : Type 0} → K → K
same_key k = k

-- the slots that a handle has in hand
abbrev pub in_hand : {X : Type 0} → Bool → List (ℕ × Option X)
in_hand true = (0, None) ∷ []
in_hand false = []

module _ {X K : Type 0} where
  -- the slot is out with a handle
  abbrev pub IsOut : State (Option X) K → Type 0
  IsOut s = (s.words ≡ 0 ∷ []) × (s.homes ≡ none ∷ [])

  -- a value that fits is in the slot
  pub record IsIn (Fits : X → Type 0) (s : State (Option X) K) : Type 0 where
    pub words : s.words ≡ 1 ∷ []
    pub value : X
    pub homes : s.homes ≡ some (Some value) ∷ []
    pub fits : Fits value

  -- the place is new, and no value was in it
  abbrev pub IsNew : State (Option X) K → Type 0
  IsNew s = (s.words ≡ 2 ∷ []) × (s.homes ≡ some None ∷ [])

  -- each handle knows the key, and the slot is out, has a value that fits the key, or is new
  pub record PlaceHolds (Fits : K → X → Type 0) (key : K) (s : State (Option X) K) : Type 0 where
    pub known : (i : ℕ) (v : K) → get_elem? s.views i ≡ some v → v ≡ key
    pub slot : IsOut s ⊎ IsIn (Fits key) s ⊎ IsNew s

  -- a handle has the slot with a value that fits
  pub record HasTaken (Fits : K → X → Type 0) (key : K) (m : Me (Option X) K) : Type 0 where
    pub value : X
    pub has : m ≡ (key, (0, Some value) ∷ [])
    pub fits : Fits key value

  -- a handle that had no slot has it with a value if it found 1, and else has none
  pub record Took (Fits : K → X → Type 0) (step : Step (Option X)) (m : Me (Option X) K) (found : ℕ) (k : Me (Option X) K)
      : Type 0 where
    pub value : found ≡ 1 → HasTaken Fits m.0 k
    pub nothing : found ≢ 1 → k ≡ m

  -- a handle that had no slot has it, without a value, if it found 2
  abbrev pub opened : Step (Option X) → Me (Option X) K → ℕ → Me (Option X) K → Type 0
  opened step m found k = found ≡ 2 → k ≡ (m.0, (0, None) ∷ [])

  -- a handle has no slot any more
  abbrev pub gave : Step (Option X) → Me (Option X) K → ℕ → Me (Option X) K → Type 0
  gave step m stored k = k ≡ (m.0, [])

  -- a handle of the place with this table and this key
  pub record IsHandle (table : TableId) (key : K) (seat : TableId) (m : Me (Option X) K) (took : Bool) : Type 0 where
    pub one_word : table.words ≡ 1
    pub one_slot : table.slots ≡ 1
    pub same : seat ≡ table
    pub knows : m ≡ (key, in_hand took)
