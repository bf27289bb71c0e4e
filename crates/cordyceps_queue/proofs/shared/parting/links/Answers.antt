use Rattle.std.proofs.Common.{rules}
use Rattle.cordyceps_queue.proofs.shared.parting.links.Goals as goal

pub loop-room-preserved : goal.loop-room-preserved
loop-room-preserved c = search rules
