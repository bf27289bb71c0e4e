-- What the lines of mode stack do.
use Rattle.cordyceps_tables.specs.Tables.{Table}
use Rattle.cordyceps_tables.specs.Stacks.{step}
use Rattle.replay_driver.specs.Script.{Machine}
use Rattle.replay_lines.specs.StackScript.{command_of}
use Rattle.replay_sessions.specs.Commands.{commands_machine}

-- each line is a command on the table
abbrev pub stack_machine : Machine Table
stack_machine = commands_machine command_of step
