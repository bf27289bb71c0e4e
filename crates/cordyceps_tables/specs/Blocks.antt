-- What the lines of a cursor block do.
use Rattle.std.specs.Prelude.{◌≡◌, ℕ, ◌+◌, ◌-◌, true, not, ◌&&◌, List, [], ◌∷◌, ◌++◌, length, take, drop, Option}
use Rattle.std.specs.Prelude.{Some, None, slice_get, slice_set, if◌then◌else◌, nat_eq, nat_lt, nat_le}
use Rattle.cordyceps_base.specs.Element.{Element, Elements, values, with_value}
use Rattle.cordyceps_base.specs.Runs.{after, replies_to}
use Rattle.cordyceps_list.specs.Cursor.{CursorMut, Stands, elements, place, lender}
use Rattle.cordyceps_list.specs.Places.{next_place, prev_place, index_at}
pub use Rattle.cordyceps_commands.specs.ListCommands.{OtherFits, EndsBlock, BlockFits}
use Rattle.cordyceps_commands.specs.declared.item.Item.{Item}
use Rattle.cordyceps_commands.specs.declared.list_command.ListEnd.{ListEnd}
use Rattle.cordyceps_commands.specs.declared.list_command.ListEnd.TheVariants as ends
use Rattle.cordyceps_commands.specs.declared.list_command.CursorCommand.{CursorCommand}
use Rattle.cordyceps_commands.specs.declared.list_command.CursorCommand.TheVariants as lines
use Rattle.cordyceps_commands.specs.declared.reply.Reply.{Reply}
use Rattle.cordyceps_commands.specs.Replies.{Line, lines_of, block_begins, done, nothing, len, not_there}
use Rattle.cordyceps_commands.specs.Replies.{found_or_nothing, index_or_nothing}
use Rattle.cordyceps_tables.specs.declared.replay.blocks.Side.{Side}
use Rattle.cordyceps_tables.specs.declared.replay.blocks.Side.TheVariants as sides
use Rattle.cordyceps_tables.specs.Tables.{Table, element_of, held_at}
use Rattle.cordyceps_tables.specs.Filters.{first_passing, all_but}

-- elements, and a cursor's place among them, from 0 to their number, which is the null place
abbrev pub Spot : Type 0
Spot = Elements Item × ℕ

-- the place where a cursor begins among so many elements
abbrev pub first_place : ListEnd → ℕ → ℕ
first_place ends.Front count = 0
first_place ends.Back count = count - 1

-- the item at a place, where there is one, gets another value
abbrev pub set_at : Elements Item → ℕ → ℕ → Option Item → ℕ → Spot × Line
set_at s k at None value = ((s, k), nothing)
set_at s k at (Some item) value = ((with_value s at (record item { value = value }), k), done)

-- the element at a place is taken out, and the cursor is at the one after it
abbrev pub remove : Elements Item → ℕ → Spot × Line
remove s at = ((all_but s at, at), found_or_nothing (slice_get (values s) at))

-- more elements on a side of the cursor's; at the null place, those after it are first, and those before it last
abbrev pub put_beside : Side → Elements Item → ℕ → Elements Item → Spot
put_beside sides.After s k more =
    if nat_lt k (length s) then (take (k + 1) s ++ more ++ drop (k + 1) s, k) else (more ++ s, k + length more)
put_beside sides.Before s k more = (take k s ++ more ++ drop k s, k + length more)

-- one more element there, where the length is below the largest `usize`
abbrev pub insert : Side → Elements Item → ℕ → Element Item → Spot × Line
insert side s k e =
    if nat_lt (length s) 18446744073709551615 then (put_beside side s k (e ∷ []), done) else ((s, k), not_there)

-- The elements and the cursor's place after a line on its list alone, and the reply. Lines that insert an item, or name
-- another list, are not run so.
abbrev pub call_on : Elements Item → ℕ → CursorCommand → Spot × Line
call_on s k lines.MoveNext = ((s, next_place (length s) k), done)
call_on s k lines.MovePrev = ((s, prev_place (length s) k), done)
call_on s k lines.Current = ((s, k), found_or_nothing (slice_get (values s) k))
call_on s k lines.PeekNext = ((s, k), found_or_nothing (slice_get (values s) (next_place (length s) k)))
call_on s k lines.PeekPrev = ((s, k), found_or_nothing (slice_get (values s) (prev_place (length s) k)))
call_on s k lines.Index = ((s, k), index_or_nothing (index_at (length s) k))
call_on s k lines.Len = ((s, k), len (length s))
call_on s k (lines.Set value) = set_at s k k (slice_get (values s) k) value
call_on s k (lines.SetNext value) =
    set_at s k (next_place (length s) k) (slice_get (values s) (next_place (length s) k)) value
call_on s k (lines.SetPrev value) =
    set_at s k (prev_place (length s) k) (slice_get (values s) (prev_place (length s) k)) value
call_on s k lines.Next = ((s, if nat_lt k (length s) then k + 1 else k), found_or_nothing (slice_get (values s) k))
call_on s k lines.RemoveCurrent = remove s k
call_on s k (lines.RemoveFirst filter) = remove s (first_passing filter true s k)
call_on s k lines.End = ((s, k), done)
call_on s k line = ((s, k), not_there)

-- a cursor's list and its place became these, and this is the reply
pub record Goes (old new : CursorMut Item) (to : Spot × Line) (reply : Reply) : Type 0 where
  pub stands : Stands old new to.0.0 to.0.1
  pub told : lines_of reply ≡ to.1 ∷ []

-- the same by a line on the list alone
abbrev pub Obeys : CursorMut Item → CursorMut Item → CursorCommand → Reply → Type 0
Obeys old new line reply = Goes old new (call_on (elements old) (place old) line) reply

-- a table, and a cursor's place in one of its lists
abbrev pub State : Type 0
State = Table × ℕ

-- what a split on a side of the cursor's element keeps, with the cursor's place, and what goes; after the null place
-- all
abbrev pub cut_beside : Side → Elements Item → ℕ → Spot × Elements Item
cut_beside sides.After s k = if nat_lt k (length s) then ((take (k + 1) s, k), drop (k + 1) s) else (([], 0), s)
cut_beside sides.Before s k = ((drop k s, 0), take k s)

-- a split kept this, and cut this off
pub record Cuts (old new : CursorMut Item) (gone : Elements Item) (cut : Spot × Elements Item) : Type 0 where
  pub stands : Stands old new cut.0.0 cut.0.1
  pub cut_off : gone ≡ cut.1

-- what a split cuts off becomes the other list, where that is another one and empty
abbrev pub split_to : State → ℕ → ℕ → Spot × Elements Item → State × Line
split_to (table, k) list other cut =
    if not (nat_eq list other) && nat_eq (length (held_at table other)) 0
    then ((slice_set (slice_set table other cut.1) list cut.0.0, cut.0.1), done)
    else ((table, k), not_there)

-- all of the other list went into the cursor's, where that is another one and the sum of the lengths fits
abbrev pub splice_from : State → ℕ → ℕ → Spot → State × Line
splice_from (table, k) list other joined =
    if not (nat_eq list other)
    && nat_le (length (held_at table list) + length (held_at table other)) 18446744073709551615
    then ((slice_set (slice_set table other []) list joined.0, joined.1), done)
    else ((table, k), not_there)

-- the cursor's list and its place in it became these
abbrev pub moved_to : State → ℕ → Spot × Line → State × Line
moved_to (table, k) list to = ((slice_set table list to.0.0, to.0.1), to.1)

-- one more element on a side of the cursor's
abbrev pub insert_on : State → ℕ → Side → Item → State × Line
insert_on (table, k) list side item = moved_to (table, k) list (insert side (held_at table list) k (element_of item))

-- what is on a side of the cursor's element becomes the other list
abbrev pub split_on : State → ℕ → Side → ℕ → State × Line
split_on (table, k) list side other = split_to (table, k) list other (cut_beside side (held_at table list) k)

-- all of the other list goes to a side of the cursor's element
abbrev pub splice_on : State → ℕ → Side → ℕ → State × Line
splice_on (table, k) list side other =
    splice_from (table, k) list other (put_beside side (held_at table list) k (held_at table other))

-- the table and the cursor's place after a line of a block on the list with a number, and the reply
abbrev pub line_step : ℕ → State → CursorCommand → State × Line
line_step list (table, k) (lines.InsertAfter item) = insert_on (table, k) list sides.After item
line_step list (table, k) (lines.InsertBefore item) = insert_on (table, k) list sides.Before item
line_step list (table, k) (lines.SplitAfter other) = split_on (table, k) list sides.After other
line_step list (table, k) (lines.SplitBefore other) = split_on (table, k) list sides.Before other
line_step list (table, k) (lines.SpliceAfter other) = splice_on (table, k) list sides.After other
line_step list (table, k) (lines.SpliceBefore other) = splice_on (table, k) list sides.Before other
line_step list (table, k) line = moved_to (table, k) list (call_on (held_at table list) k line)

-- the table after lines on a cursor that begins at an end of a list, and the replies to them after earlier ones
abbrev pub run_lines : Table → ℕ → ListEnd → List CursorCommand → List Line → Table × List Line
run_lines table list end lines told =
    let start : State = (table, first_place end (length (held_at table list))) in
    ((after (line_step list) start lines).0, told ++ replies_to (line_step list) start lines)

-- the table after a block, and after the mark the replies to its lines, that to the line which opens it first
abbrev pub block : Table → ℕ → ListEnd → List CursorCommand → Table × List Line
block table list end lines = run_lines table list end lines (block_begins ∷ done ∷ [])

-- the table that holds a cursor's list at its number, and the cursor's place
abbrev pub state_of : Table → ℕ → CursorMut Item → State
state_of table list cursor = (slice_set table list (elements cursor), place cursor)

-- a table and a cursor on the list with a number came to this state, and this is the reply
pub record Reaches (list : ℕ) (new_table : Table) (old new : CursorMut Item) (to : State × Line) (reply : Reply) :
    Type 0 where
  pub same_reference : lender new ≡ lender old
  pub state_is : state_of new_table list new ≡ to.0
  pub told : lines_of reply ≡ to.1 ∷ []

-- the same by a line
abbrev pub LineRuns : ℕ → Table → Table → CursorMut Item → CursorMut Item → CursorCommand → Reply → Type 0
LineRuns list table new_table old new line reply =
    Reaches list new_table old new (line_step list (state_of table list old) line) reply

-- the nodes that a line puts in, and those of many lines
abbrev pub made_for : CursorCommand → Elements Item
made_for (lines.InsertAfter item) = element_of item ∷ []
made_for (lines.InsertBefore item) = element_of item ∷ []
made_for line = []

abbrev pub made_for_all : List CursorCommand → Elements Item
made_for_all [] = []
made_for_all (line ∷ rest) = made_for line ++ made_for_all rest
