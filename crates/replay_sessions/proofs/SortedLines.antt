-- What a line of mode sorted does.
use Rattle.std.proofs.Common.{◌≡◌, ℕ, Option, Some, None, true, refl}
use Rattle.std.specs.Prelude.{is_some}
use Rattle.std.specs.declared.cmp.Ordering.{Ordering}
use Rattle.cordyceps_commands.specs.declared.item.Item.{Item}
use Rattle.cordyceps_commands.specs.declared.sorted_command.SortedCommand.{SortedCommand}
use Rattle.cordyceps_commands.specs.declared.sorted_command.SortedCommand.TheVariants as commands
use Rattle.cordyceps_tables.specs.Tables.{Table}
use Rattle.cordyceps_tables.specs.Sorteds.{step}
use Rattle.replay_lines.specs.SortedScript.{Entry, entry_for}
use Rattle.replay_sessions.specs.SortedMachine.{step_entry}

pub some_entry : (entry : Option Entry) → is_some entry ≡ true → (e : Entry) × (Some e ≡ entry)
some_entry (Some e) is = (e, refl)
some_entry None is = cc

-- a command does what its line asks for
pub stepped : (order : ℕ → Item → Item → Ordering) (table : Table) (command : SortedCommand) → step_entry order table (entry_for command) ≡ step order table command
stepped order table (commands.Insert list item) = refl
stepped order table (commands.PopFront list) = refl
stepped order table (commands.Show list) = refl
stepped order table (commands.FromStack list items) = refl
