-- The slots of a transfer stack's table. Each has its room's link, and the element of a room in use.
-- A link, like the word head, is 0 for null, or 1 more than a room.
use Rattle.std.specs.Prelude.{◌≡◌, ◌<◌, ℕ, zero, suc, List, [], ◌∷◌, length, map}
use mathlib.Core.Option.{some}
use mathlib.Core.Option as maybe
use lib.ListN.{get_elem?}
use Rattle.atomic_table.specs.Table.{Step, Me}
use Rattle.cordyceps_shared.specs.FreeChains.{leads}
use Rattle.cordyceps_stack.specs.declared.shared.slot.Slot.{Slot}
use Rattle.cordyceps_stack.specs.declared.shared.slot.Slot.TheVariants.{Free, Used}
use Rattle.cordyceps_stack.specs.Shared.Order.{crosswise, leads_before}

-- the slots: what is in each that is at home, which is with the table, and not with a seat
abbrev pub Homes : Type 0 → Type 0
Homes E = List (maybe.Option (Slot E))

-- the slots that are in hand, the last taken first
abbrev pub Hand : Type 0 → Type 0
Hand E = List (ℕ × Slot E)

-- a party's seat: its view, of type V, and the slots that it has in hand
abbrev pub SeatWith : Type 0 → Type 0 → Type 0
SeatWith E V = Me (Slot E) V

module _ {E V : Type 0} where
  abbrev pub view : SeatWith E V → V
  view m = m.0

  abbrev pub hand : SeatWith E V → Hand E
  hand m = m.1

-- what a step on the table does
abbrev pub TableStep : Type 0 → Type 0
TableStep E = Step (Slot E)

-- the rooms of a list of rooms with what is in each
abbrev pub rooms_of : {A : Type 0} → List (ℕ × A) → List ℕ
rooms_of xs = map (λ x. x.0) xs

-- the word that leads to a chain
abbrev pub start : {A : Type 0} → List (ℕ × A) → ℕ
start [] = 0
start (x ∷ xs) = suc x.0

-- a link, or this one in place of null
abbrev pub link_or : ℕ → ℕ → ℕ
link_or zero other = other
link_or (suc r) other = suc r

module _ {E : Type 0} where
  -- the slot of a room in use, and of a free one, with its link
  abbrev pub filled : E → ℕ → Slot E
  filled x link = Used link x

  abbrev pub vacant : ℕ → Slot E
  vacant link = Free link

  -- a slot's link, and the slot with another link
  abbrev pub link_of : Slot E → ℕ
  link_of (Free link) = link
  link_of (Used link x) = link

  abbrev pub linked_to : ℕ → Slot E → Slot E
  linked_to to (Free link) = Free to
  linked_to to (Used link x) = Used to x

  -- the slots of a chain of rooms in use: each room leads to the next, and the last to null
  abbrev pub in_use : List (ℕ × E) → Hand E
  in_use [] = []
  in_use (x ∷ xs) = (x.0, filled x.1 (start xs)) ∷ in_use xs

  -- the slots of rooms in use, of which the last leads to this word
  abbrev pub in_use_to : List (ℕ × E) → ℕ → Hand E
  in_use_to [] end = []
  in_use_to (x ∷ xs) end = (x.0, filled x.1 (leads (rooms_of xs) end)) ∷ in_use_to xs end

  -- the slots of a chain of free rooms, of which the last has the link `end`
  abbrev pub all_vacant : List ℕ → ℕ → Hand E
  all_vacant [] end = []
  all_vacant (r ∷ rs) end = (r, vacant (leads rs end)) ∷ all_vacant rs end

  -- each of these slots is at home, with just this in it
  abbrev pub AtHome : Homes E → Hand E → Type 0
  AtHome homes [] = Unit {0}
  AtHome homes (x ∷ xs) = (get_elem? homes x.0 ≡ some (some x.1)) × AtHome homes xs

  -- the last slot's link
  abbrev pub last_link : Hand E → ℕ
  last_link [] = 0
  last_link (x ∷ []) = link_of x.1
  last_link (x ∷ y ∷ ys) = last_link (y ∷ ys)

  -- the slots of a new stack, all of whose rooms are free, in order
  pub record AreNew (slots : List (Slot E)) (rooms : ℕ) : Type 0 where
    pub many : length slots ≡ rooms
    pub linked : (r : ℕ) → r < rooms → get_elem? slots r ≡ some (vacant (leads_before rooms (crosswise rooms r)))
