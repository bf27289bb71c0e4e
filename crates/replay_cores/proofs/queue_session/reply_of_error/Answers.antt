use Rattle.std.proofs.Common.{rules}
use Rattle.replay_cores.proofs.queue_session.reply_of_error.Goals as goal

pub returns-in-Inconsistent : goal.returns-in-Inconsistent
returns-in-Inconsistent c = search rules
