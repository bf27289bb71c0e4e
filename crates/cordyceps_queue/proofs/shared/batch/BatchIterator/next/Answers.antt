use Rattle.std.proofs.Common.{rules}
use Rattle.cordyceps_queue.proofs.shared.batch.BatchIterator.next.Goals as goal

pub returns : goal.returns
returns g c = record { steps = search rules; goes = search rules }
