-- Which lists the commands on lists name.
use Rattle.std.specs.Prelude.{◌≡◌, ℕ, ◌<◌, List, [], ◌∷◌}
use Rattle.cordyceps_commands.specs.declared.list_command.ListCommand.{ListCommand}
use Rattle.cordyceps_commands.specs.declared.list_command.ListCommand.TheVariants as commands
use Rattle.cordyceps_commands.specs.declared.list_command.CursorCommand.{CursorCommand}
use Rattle.cordyceps_commands.specs.declared.list_command.CursorCommand.TheVariants as lines

-- the other list of a line is one of sixteen
abbrev pub OtherFits : CursorCommand → Type 0
OtherFits (lines.SplitAfter other) = other < 16
OtherFits (lines.SplitBefore other) = other < 16
OtherFits (lines.SpliceAfter other) = other < 16
OtherFits (lines.SpliceBefore other) = other < 16
OtherFits line = Unit {0}

-- an end has no line after it
abbrev pub EndsBlock : CursorCommand → List CursorCommand → Type 0
EndsBlock lines.End rest = rest ≡ []
EndsBlock line rest = Unit {0}

-- each line of a block names a list among sixteen, if one, and an end comes only last
abbrev pub BlockFits : List CursorCommand → Type 0
BlockFits [] = Unit {0}
BlockFits (line ∷ rest) = OtherFits line × EndsBlock line rest × BlockFits rest

-- the number of the list that a command names first
abbrev pub list_of : ListCommand → ℕ
list_of (commands.PushFront list item) = list
list_of (commands.PushBack list item) = list
list_of (commands.PopFront list) = list
list_of (commands.PopBack list) = list
list_of (commands.Front list) = list
list_of (commands.Back list) = list
list_of (commands.SetFront list value) = list
list_of (commands.SetBack list value) = list
list_of (commands.Len list) = list
list_of (commands.Append list other) = list
list_of (commands.Split list at other) = list
list_of (commands.Remove list id) = list
list_of (commands.Bump list by) = list
list_of (commands.Walk list turns) = list
list_of (commands.Into list turns) = list
list_of (commands.Drain list filter limit) = list
list_of (commands.Show list) = list
list_of (commands.Cursor list end lines) = list

-- each list that the command names beside its first is one of sixteen, and in a block an end stands only last
abbrev pub OthersFit : ListCommand → Type 0
OthersFit (commands.Append list other) = other < 16
OthersFit (commands.Split list at other) = other < 16
OthersFit (commands.Cursor list end lines) = BlockFits lines.items
OthersFit command = Unit {0}

-- it names lists among sixteen
pub record Fits (command : ListCommand) : Type 0 where
  pub first : list_of command < 16
  pub others : OthersFit command
