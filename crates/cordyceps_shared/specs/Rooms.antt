-- The rooms of a core, in a list by their numbers, and what a step changes of one.
use Rattle.std.specs.Prelude.{ℕ, zero, suc, List, [], ◌∷◌, count_by, Bool, nat_eq, is_some, Option, Some, None}
use Rattle.std.specs.Option.{option_eq}
use Rattle.cordyceps_shared.specs.declared.room.Room.{Room}

-- the list with f of its i-th item in that item's place
abbrev pub change : {X : Type 0} → (X → X) → ℕ → List X → List X
change f i [] = []
change f zero (x ∷ xs) = f x ∷ xs
change f (suc i) (x ∷ xs) = x ∷ change f i xs

module _ {E : Type 0} where
  -- a room that got a link, and one that is p's free room again
  abbrev pub with_link : Option ℕ → Room E → Room E
  with_link next room = record { owner = room.owner; element = room.element; next = next }

  abbrev pub as_free_room : ℕ → Room E → Room E
  as_free_room p room = record { owner = Some p; element = None; next = room.next }

  abbrev pub is_free_for : ℕ → Room E → Bool
  is_free_for p room = option_eq nat_eq room.owner (Some p)

  -- the element and the link of a room, if it is there
  abbrev pub element_in : Option (Room E) → Option E
  element_in None = None
  element_in (Some room) = room.element

  abbrev pub next_in : Option (Room E) → Option ℕ
  next_in None = None
  next_in (Some room) = room.next

  -- how many rooms have an element
  abbrev pub occupied : List (Room E) → ℕ
  occupied rooms = count_by (λ room. is_some room.element) rooms
