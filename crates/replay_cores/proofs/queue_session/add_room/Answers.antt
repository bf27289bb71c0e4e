use Rattle.std.proofs.Common.{rules}
use Rattle.replay_cores.proofs.queue_session.add_room.Goals as goal

pub returns-in-Err-NotThere : goal.returns-in-Err-NotThere
returns-in-Err-NotThere c = search rules
