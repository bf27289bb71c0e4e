use Rattle.std.proofs.Common.{rules}
use Rattle.replay_lines.proofs.queue_command.read_with.Goals as goal

pub returns-in-Clear : goal.returns-in-Clear
returns-in-Clear c = search rules
