-- Which lists the commands on sorted lists name.
use Rattle.std.specs.Prelude.{ℕ, ◌<◌}
use Rattle.cordyceps_commands.specs.declared.sorted_command.SortedCommand.{SortedCommand}
use Rattle.cordyceps_commands.specs.declared.sorted_command.SortedCommand.TheVariants as commands

-- the number of the list that a command names
abbrev pub list_of : SortedCommand → ℕ
list_of (commands.Insert list item) = list
list_of (commands.PopFront list) = list
list_of (commands.Show list) = list
list_of (commands.FromStack list items) = list

-- it names one of sixteen lists
abbrev pub Fits : SortedCommand → Type 0
Fits command = list_of command < 16
