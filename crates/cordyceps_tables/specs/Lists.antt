-- What commands do to a table of lists.
use Rattle.std.specs.Prelude.{ℕ, ◌+◌, ◌-◌, true, not, ◌&&◌, List, [], ◌∷◌, ◌++◌, length, map, take, drop, Option}
use Rattle.std.specs.Prelude.{Some, None, option_map, slice_get, slice_set, if◌then◌else◌, nat_eq, nat_lt, nat_le}
use Rattle.cordyceps_base.specs.Element.{Elements, values, with_value, first_with_id, without_id}
pub use Rattle.cordyceps_commands.specs.ListCommands.{list_of, OthersFit, Fits}
use Rattle.cordyceps_commands.specs.declared.item.Item.{Item}
use Rattle.cordyceps_commands.specs.declared.list_command.ListCommand.{ListCommand}
use Rattle.cordyceps_commands.specs.declared.list_command.ListCommand.TheVariants as commands
use Rattle.cordyceps_commands.specs.Replies.{Line, done, nothing, len, show, not_there, found_or_nothing}
use Rattle.cordyceps_tables.specs.Tables.{Table, element_of, held_at, on}
use Rattle.cordyceps_tables.specs.Walks.{items_for, bump_all}
use Rattle.cordyceps_tables.specs.Filters.{drain}
use Rattle.cordyceps_tables.specs.Blocks.{block}

-- the elements after a push, which has its condition: the length is below the largest `usize`
abbrev pub push : Elements Item → Elements Item → Elements Item × List Line
push s more = if nat_lt (length s) 18446744073709551615 then (more, done ∷ []) else (s, not_there ∷ [])

-- the item at a place, where there is one, gets another value
abbrev pub set_item : Elements Item → ℕ → Option Item → ℕ → Elements Item × List Line
set_item s k None value = (s, nothing ∷ [])
set_item s k (Some item) value = (with_value s k (record item { value = value }), done ∷ [])

-- what was taken out is shown, and the rest stays
abbrev pub show_removed : List Item × Elements Item → Elements Item × List Line
show_removed split = (split.1, show (map Some split.0) ∷ [])

-- The elements of a list after a command on it alone, and the replies to the command's lines. Blocks, and commands that
-- name a second list, are not run so.
abbrev pub call_on : Elements Item → ListCommand → Elements Item × List Line
call_on s (commands.PushFront list item) = push s (element_of item ∷ s)
call_on s (commands.PushBack list item) = push s (s ++ element_of item ∷ [])
call_on s (commands.PopFront list) = (drop 1 s, found_or_nothing (slice_get (values s) 0) ∷ [])
call_on s (commands.PopBack list) =
    (take (length s - 1) s, found_or_nothing (slice_get (values s) (length s - 1)) ∷ [])
call_on s (commands.Front list) = (s, found_or_nothing (slice_get (values s) 0) ∷ [])
call_on s (commands.Back list) = (s, found_or_nothing (slice_get (values s) (length s - 1)) ∷ [])
call_on s (commands.SetFront list value) = set_item s 0 (slice_get (values s) 0) value
call_on s (commands.SetBack list value) = set_item s (length s - 1) (slice_get (values s) (length s - 1)) value
call_on s (commands.Len list) = (s, len (length s) ∷ [])
call_on s (commands.Remove list id) =
    (without_id id s, found_or_nothing (option_map (λ e. e.value) (first_with_id id s)) ∷ [])
call_on s (commands.Bump list by) = (bump_all by s, done ∷ [])
call_on s (commands.Walk list turns) = (s, show (items_for turns.items (values s)) ∷ [])
call_on s (commands.Into list turns) = ([], show (items_for turns.items (values s)) ∷ [])
call_on s (commands.Drain list filter limit) = show_removed (drain filter limit true s 0)
call_on s (commands.Show list) = (s, show (map Some (values s)) ∷ [])
call_on s command = (s, not_there ∷ [])

-- all that the second list holds goes after the first, where these are two and the sum of the lengths fits
abbrev pub append : Table → ℕ → ℕ → Table × List Line
append table list other =
    if not (nat_eq list other)
    && nat_le (length (held_at table list) + length (held_at table other)) 18446744073709551615
    then (slice_set (slice_set table other []) list (held_at table list ++ held_at table other), done ∷ [])
    else (table, not_there ∷ [])

-- so many elements stay, if there are as many, and the others go to the second list
abbrev pub split_off : Table → ℕ → ℕ → ℕ → Table × List Line
split_off table list at other =
    if nat_le at (length (held_at table list))
    then (
      slice_set (slice_set table list (take at (held_at table list))) other (drop at (held_at table list)),
      done ∷ [],
    )
    else (table, nothing ∷ [])

-- the same, where these are two lists and the second is empty
abbrev pub split : Table → ℕ → ℕ → ℕ → Table × List Line
split table list at other =
    if not (nat_eq list other) && nat_eq (length (held_at table other)) 0 then split_off table list at other else
    (table, not_there ∷ [])

-- the table after a command, and the replies to the command's lines
abbrev pub step : Table → ListCommand → Table × List Line
step table (commands.Append list other) = append table list other
step table (commands.Split list at other) = split table list at other
step table (commands.Cursor list end lines) = block table list end lines.items
step table command = on table (list_of command) (λ s. call_on s command)
