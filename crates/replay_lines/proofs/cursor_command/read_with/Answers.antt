use Rattle.std.proofs.Common.{rules}
use Rattle.replay_lines.proofs.cursor_command.read_with.Goals as goal

pub returns-in-Bare : goal.returns-in-Bare
returns-in-Bare c = search rules
