-- What commands do to a table of sorted lists.
use Rattle.std.specs.Prelude.{ℕ, List, [], ◌∷◌, length, drop, map, Option, Some, None, slice_get, reverse}
use Rattle.std.specs.Prelude.{if◌then◌else◌, nat_eq, nat_lt}
use Rattle.std.specs.declared.cmp.Ordering.{Ordering}
use Rattle.std.specs.List.Sorted.{IsSortedBy}
use Rattle.cordyceps_base.specs.Element.{Elements, values}
pub use Rattle.cordyceps_commands.specs.SortedCommands.{list_of, Fits}
use Rattle.cordyceps_single.specs.Arrangement.{Sorted, less, put, put_all}
use Rattle.cordyceps_commands.specs.declared.item.Item.{Item}
use Rattle.cordyceps_commands.specs.declared.sorted_command.SortedCommand.{SortedCommand}
use Rattle.cordyceps_commands.specs.declared.sorted_command.SortedCommand.TheVariants as commands
use Rattle.cordyceps_commands.specs.Replies.{Line, done, show, not_there, found_or_nothing}
use Rattle.cordyceps_tables.specs.Tables.{Table, element_of, held_at, on}

-- the items of a stack on which they were pushed in this order, the last pushed first, put into an empty list
abbrev pub fill : (Item → Item → Ordering) → List Item → Elements Item → Elements Item × List Line
fill cmp items s =
    if nat_eq (length s) 0 then (put_all cmp [] (map element_of (reverse items)), done ∷ []) else (s, not_there ∷ [])

-- The order of the list with this number: that of items in the first six, the same the other way round in the next
-- five, and the caller's in the others.
abbrev pub order_of : (own cmp : Item → Item → Ordering) → ℕ → Item → Item → Ordering
order_of own cmp n = if nat_lt n 6 then own else if nat_lt n 11 then (λ x y. own y x) else cmp

-- the elements of a list after a command on it, and the replies to the command's lines
abbrev pub step_on : (Item → Item → Ordering) → Elements Item → SortedCommand → Elements Item × List Line
step_on cmp s (commands.Insert list item) = (put cmp s (element_of item), done ∷ [])
step_on cmp s (commands.PopFront list) = (drop 1 s, found_or_nothing (slice_get (values s) 0) ∷ [])
step_on cmp s (commands.Show list) = (s, show (map Some (values s)) ∷ [])
step_on cmp s (commands.FromStack list items) = fill cmp items.items s

-- the elements of a list, once the stack that it is to be made of, if there is one, is put into an empty list
abbrev pub made_of : (Item → Item → Ordering) → Elements Item → Option (Elements Item) → Elements Item
made_of cmp s None = s
made_of cmp s (Some stack) = put_all cmp [] stack

-- an empty sorted list with an order
abbrev pub empty_with : {O : Type 0} → O → Sorted Item O
empty_with order = record { elements = []; order = order }

-- what sorted lists hold, without their orders
abbrev pub contents : {O : Type 0} → List (Sorted Item O) → Table
contents lists = map (λ l. l.elements) lists

-- the table after a command, and the replies to the command's lines
abbrev pub step : (ℕ → Item → Item → Ordering) → Table → SortedCommand → Table × List Line
step order table command = on table (list_of command) (λ s. step_on (order (list_of command)) s command)

-- each list of the table is in its order
abbrev pub AreInOrder : (ℕ → Item → Item → Ordering) → Table → Type 0
AreInOrder order table = (n : ℕ) → IsSortedBy (less (order n)) (held_at table n)
