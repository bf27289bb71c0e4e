-- What iterators over a list return, and what they change.
use Rattle.std.specs.Prelude.{ℕ, ◌+◌, ◌-◌, ◌%◌, ◌^◌, List, [], ◌∷◌, length, take, drop, map, Option, slice_get}
use Rattle.cordyceps_base.specs.Element.{Element, Elements}
use Rattle.cordyceps_commands.specs.declared.item.Item.{Item}
use Rattle.cordyceps_commands.specs.declared.list_command.Turn.{Turn}
use Rattle.cordyceps_commands.specs.declared.list_command.Turn.TheVariants as turns

-- the item that a turn returns, if there is one, and those that are left after it
abbrev pub item_for : Turn → List Item → Option Item
item_for turns.Next items = slice_get items 0
item_for turns.NextBack items = slice_get items (length items - 1)

abbrev pub rest_after : Turn → List Item → List Item
rest_after turns.Next items = drop 1 items
rest_after turns.NextBack items = take (length items - 1) items

-- what turns return, one after the other
abbrev pub items_for : List Turn → List Item → List (Option Item)
items_for [] items = []
items_for (turn ∷ more) items = item_for turn items ∷ items_for more (rest_after turn items)

-- an element whose value grew by a number, modulo 2 to the 64
abbrev pub bump : ℕ → Element Item → Element Item
bump by e = record e { value = record e.value { value = (e.value.value + by) % 2 ^ 64 } }

-- elements whose values all grew by a number
abbrev pub bump_all : ℕ → Elements Item → Elements Item
bump_all by s = map (bump by) s
