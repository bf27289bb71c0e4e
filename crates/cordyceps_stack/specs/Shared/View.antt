-- What a party of a shared transfer stack knows and does, as the rule of the stack's table sees it.
use Rattle.std.specs.Prelude.{ℕ, List, [], ◌∷◌, ◌+◌, length}
use Rattle.cordyceps_shared.specs.FreeChains.{FreeChain}
use Rattle.cordyceps_shared.specs.Counts.{times}
use Rattle.cordyceps_shared.specs.Knowing.{Known}
use Rattle.cordyceps_shared.specs.Knowing as knowing
use Rattle.cordyceps_shared.specs.Shares.{Name, first_name}
use Rattle.cordyceps_stack.specs.History.{Event}
use Rattle.cordyceps_stack.specs.Shared.Order.{in_order}
use Rattle.cordyceps_stack.specs.Shared.Slots.{rooms_of}

-- where a party is within a call
pub data Doing (E : Type 0) : Type 0 where
  Idle : Doing E
  -- it pushes with this room, whose slot it has in hand, and read this word at head
  Loaded : ℕ → ℕ → Doing E
  -- it pushes with all of these rooms, whose slots it has in hand, and read this word at head
  LoadedAll : List ℕ → ℕ → Doing E
  -- it has the slots of these rooms in hand, and returns them or goes on to push with them
  Holding : List ℕ → Doing E
  -- it took these rooms with their elements, or could not push them, and has their slots in hand
  Walking : List (ℕ × E) → Doing E

-- what the party knows of the history, its free rooms whose slots are at home, and what it does
pub record View (E : Type 0) : Type 0 where
  pub known : Known (Event Name E)
  pub free : FreeChain
  pub doing : Doing E

module _ {E : Type 0} where
  abbrev pub knows : View E → Known (Event Name E)
  knows v = v.known

  -- the party of a new stack
  abbrev pub newcomer : ℕ → View E
  newcomer rooms = record { known = knowing.newcomer; free = record { rooms = in_order rooms; end = 0 }; doing = Idle }

  -- the name under which the party acts
  abbrev pub name : View E → Name
  name v = first_name v.known.share

  -- what a party does that took these rooms
  abbrev pub taking : List (ℕ × E) → Doing E
  taking [] = Idle
  taking (x ∷ xs) = Walking (x ∷ xs)

  -- the rooms whose slots a party has in hand
  abbrev pub held_rooms : Doing E → List ℕ
  held_rooms Idle = []
  held_rooms (Loaded r read) = r ∷ []
  held_rooms (LoadedAll rooms read) = rooms
  held_rooms (Holding rooms) = rooms
  held_rooms (Walking xs) = rooms_of xs

  -- how often the room r is in a chain, and among a party's rooms
  abbrev pub in_chain : ℕ → List (ℕ × E) → ℕ
  in_chain r xs = times r (rooms_of xs)

  abbrev pub count_with_party : ℕ → View E → ℕ
  count_with_party r v = times r v.free.rooms + times r (held_rooms v.doing)

  -- how many rooms a party has, free or in hand
  abbrev pub room_count : View E → ℕ
  room_count v = length v.free.rooms + length (held_rooms v.doing)
