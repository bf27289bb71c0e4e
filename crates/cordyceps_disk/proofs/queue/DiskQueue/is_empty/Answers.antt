use Rattle.std.proofs.Common.{rules}
use Rattle.cordyceps_disk.proofs.queue.DiskQueue.is_empty.Goals as goal

pub returns : goal.returns
returns g c = search rules
