use Rattle.std.proofs.Common.{[]}
use Rattle.cordyceps_queue.proofs.CoreTheory.CoreKeeps.{meets_new}
use Rattle.cordyceps_queue.proofs.cores.calls.QueueCore.new.Goals as goal

pub invariant_of-result : goal.invariant_of-result
invariant_of-result g c = rw c.new.ensures ([], meets_new)

pub returns-clause-meets : goal.returns-clause-meets
returns-clause-meets g c = rw c.new.ensures meets_new
