use Rattle.std.proofs.Common.{rules}
use Rattle.replay_cores.proofs.queue_session.batch.Goals as goal

pub returns-in-Ok-Ok : goal.returns-in-Ok-Ok
returns-in-Ok-Ok c = search rules
