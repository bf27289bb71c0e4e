-- What the lines of mode list do.
use Rattle.std.specs.Prelude.{ℕ, List, [], ◌∷◌, ◌++◌, Option, None, Some}
use Rattle.std.specs.Option.{option_map}
use Rattle.cordyceps_base.specs.Element.{values}
use Rattle.cordyceps_commands.specs.declared.list_command.ListEnd.{ListEnd}
use Rattle.cordyceps_commands.specs.declared.list_command.CursorCommand.{CursorCommand}
use Rattle.cordyceps_commands.specs.declared.list_command.CursorCommand.TheVariants as lines
use Rattle.cordyceps_commands.specs.Replies.{Line, show}
use Rattle.cordyceps_tables.specs.Tables.{Table, on}
use Rattle.cordyceps_tables.specs.Walks.{items_for}
use Rattle.cordyceps_tables.specs.Blocks as blocks
use Rattle.cordyceps_tables.specs.Lists.{step}
use Rattle.replay_driver.specs.Script.{Machine}
use Rattle.replay_lines.specs.ReplyText.{text_of}
use Rattle.replay_lines.specs.ListScript.{Meaning, plain, walk, into, cursor, meaning_of}
use Rattle.replay_lines.specs.CursorScript.{cursor_command_of}

-- a block whose end has not come: its list, where its cursor begins, and its lines so far
pub record Open : Type 0 where
  pub list : ℕ
  pub end : ListEnd
  pub lines : List CursorCommand

-- the lists, and the block that is open
abbrev pub State : Type 0
State = Table × Option Open

abbrev pub run_block : Table → Open → Table × List Line
run_block table held = blocks.block table held.list held.end held.lines

-- the block with one more line
abbrev pub longer : Open → CursorCommand → Open
longer held line = record held { lines = held.lines ++ line ∷ [] }

-- the replies to the lines of a command are one text, and no block is open
abbrev pub outside_with_text : Table × List Line → State × List (List ℕ)
outside_with_text next = ((next.0, None), text_of next.1 ∷ [])

-- what a line does outside of blocks; the first line of a block has no reply yet
abbrev pub take_outside : Table → Meaning → State × List (List ℕ)
take_outside table (plain command) = outside_with_text (step table command)
take_outside table (walk list turns) =
    outside_with_text (on table list (λ s. (s, show (items_for turns (values s)) ∷ [])))
take_outside table (into list turns) =
    outside_with_text (on table list (λ s. ([], show (items_for turns (values s)) ∷ [])))
take_outside table (cursor list end lines) = ((table, Some (record { list = list; end = end; lines = lines })), [])

-- what a line does in a block: its end runs it, and any other line waits for that
abbrev pub take_inside : Table → Open → CursorCommand → State × List (List ℕ)
take_inside table held lines.End = outside_with_text (run_block table (longer held lines.End))
take_inside table held line = ((table, Some (longer held line)), [])

abbrev pub take_line : State → List ℕ → Option (State × List (List ℕ))
take_line (table, None) line = option_map (take_outside table) (meaning_of line)
take_line (table, Some held) line = option_map (take_inside table held) (cursor_command_of line)

-- the end of the lines runs the block that is open
abbrev pub last_replies : State → List (List ℕ)
last_replies (table, None) = []
last_replies (table, Some held) = text_of (run_block table held).1 ∷ []

abbrev pub last_state : State → State
last_state (table, None) = (table, None)
last_state (table, Some held) = ((run_block table held).0, None)

-- each good line is a command, or a part of one that is a block
abbrev pub list_machine : Machine State
list_machine = record { step = take_line; ending = last_replies; last = last_state }
