use Rattle.std.proofs.Common.{rules}
use Rattle.replay_lines.proofs.core_reply.push_core_reply.Goals as goal

pub returns-in-Busy-clause-ok : goal.returns-in-Busy-clause-ok
returns-in-Busy-clause-ok c = search rules
