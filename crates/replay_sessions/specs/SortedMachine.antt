-- What the lines of mode sorted do.
use Rattle.std.specs.Prelude.{ℕ, List}
use Rattle.std.specs.declared.cmp.Ordering.{Ordering}
use Rattle.cordyceps_commands.specs.declared.item.Item.{Item}
use Rattle.cordyceps_commands.specs.declared.sorted_command.SortedCommand.TheVariants as commands
use Rattle.cordyceps_commands.specs.Replies.{Line}
use Rattle.cordyceps_tables.specs.Tables.{Table, on}
use Rattle.cordyceps_tables.specs.Sorteds.{step, fill}
use Rattle.replay_driver.specs.Script.{Machine}
use Rattle.replay_lines.specs.SortedScript.{Entry, insert, pop, show, from, entry_of}
use Rattle.replay_sessions.specs.Commands.{commands_machine}

-- the table after a line, and its replies
abbrev pub step_entry : (ℕ → Item → Item → Ordering) → Table → Entry → Table × List Line
step_entry order table (insert list item) = step order table (commands.Insert list item)
step_entry order table (pop list) = step order table (commands.PopFront list)
step_entry order table (show list) = step order table (commands.Show list)
step_entry order table (from list items) = on table list (fill (order list) items)

-- each line is a command on the table
abbrev pub sorted_machine : (ℕ → Item → Item → Ordering) → Machine Table
sorted_machine order = commands_machine entry_of (step_entry order)
