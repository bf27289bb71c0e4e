use Rattle.std.proofs.Common.{rules}
use Rattle.replay_lines.proofs.stack_command.read_command.Goals as goal

pub returns-in_ok-structure-in-Empty-clause-value : goal.returns-in_ok-structure-in-Empty-clause-value
returns-in_ok-structure-in-Empty-clause-value c = search rules
