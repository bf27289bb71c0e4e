-- Tables of structures that hold items.
use Rattle.std.specs.Prelude.{ℕ, zero, suc, List, [], ◌∷◌, slice_index_or, slice_set}
use Rattle.cordyceps_base.specs.Element.{Element, Elements}
use Rattle.cordyceps_commands.specs.declared.item.Item.{Item}
use Rattle.cordyceps_commands.specs.Replies.{Line}

-- an item as an element: its number is the element's
abbrev pub element_of : Item → Element Item
element_of item = record { id = item.id; value = item }

-- what numbered structures hold, from number 0 on
abbrev pub Table : Type 0
Table = List (Elements Item)

-- so many empty structures
abbrev pub empty_table : ℕ → Table
empty_table zero = []
empty_table (suc n) = [] ∷ empty_table n

-- what the structure with this number holds
abbrev pub held_at : Table → ℕ → Elements Item
held_at table n = slice_index_or table n []

-- the table after a command on one structure, and the replies to its lines
abbrev pub on : Table → ℕ → (Elements Item → Elements Item × List Line) → Table × List Line
on table n command = let done = command (held_at table n) in (slice_set table n done.0, done.1)
