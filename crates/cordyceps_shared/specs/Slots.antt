-- The slots of a shared collection's table, one for each room. X is the type of what is in the slot of a room in use.
use Rattle.std.specs.Prelude.{◌≡◌, ◌<◌, ℕ, List, Option, None}
use mathlib.Core.Option.{some}
use mathlib.Core.Option as maybe
use lib.ListN.{get_elem?}
use Rattle.atomic_table.specs.Table.{Step, Me}
use Rattle.cordyceps_shared.specs.Places.{ItemAt}

-- the slots: what is in each that is at home, which is with the table, and not with a seat
abbrev pub Homes : Type 0 → Type 0
Homes X = List (maybe.Option (Option X))

-- the slots that are in hand, the last taken first
abbrev pub Hand : Type 0 → Type 0
Hand X = List (ℕ × Option X)

-- a party's seat: its view, of type V, and the slots that it has in hand
abbrev pub SeatWith : Type 0 → Type 0 → Type 0
SeatWith X V = Me (Option X) V

module _ {X V : Type 0} where
  abbrev pub view : SeatWith X V → V
  view m = m.0

  abbrev pub hand : SeatWith X V → Hand X
  hand m = m.1

-- the rooms are of a table with that many slots
abbrev pub Near : ℕ → List ℕ → Type 0
Near slots rooms = (i r : ℕ) → ItemAt rooms i r → r < slots

-- what a step on the table does
abbrev pub TableStep : Type 0 → Type 0
TableStep X = Step (Option X)

module _ {X : Type 0} where
  -- the slots of these rooms are at home, with nothing in them
  abbrev pub EmptyAtHome : Homes X → List ℕ → Type 0
  EmptyAtHome homes rooms = (i r : ℕ) → ItemAt rooms i r → get_elem? homes r ≡ some (some None)
