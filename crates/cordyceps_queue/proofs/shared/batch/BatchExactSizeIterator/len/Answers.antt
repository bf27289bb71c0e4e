use Rattle.cordyceps_queue.proofs.shared.batch.BatchExactSizeIterator.len.Goals as goal

pub returns : goal.returns
returns g c = record { finite = tt; value = c.len.ensures }
