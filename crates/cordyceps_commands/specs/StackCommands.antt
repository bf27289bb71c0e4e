-- Which stacks the commands on stacks name.
use Rattle.std.specs.Prelude.{◌<◌}
use Rattle.cordyceps_commands.specs.declared.stack_command.StackCommand.{StackCommand}
use Rattle.cordyceps_commands.specs.declared.stack_command.StackCommand.TheVariants as commands

-- it names stacks among sixteen
abbrev pub Fits : StackCommand → Type 0
Fits (commands.Push stack item) = stack < 16
Fits (commands.Pop stack) = stack < 16
Fits (commands.TakeAll stack to) = (stack < 16) × (to < 16)
Fits (commands.IsEmpty stack) = stack < 16
Fits (commands.Drain stack) = stack < 16
