use Rattle.std.proofs.Common.{◌≡◌, ◌++◌, List, [], map}
use Rattle.cordyceps.specs.Transfers.Moves.{Moves}
use Rattle.cordyceps_shared_uses.specs.RunQueue.{ran}
use Rattle.cordyceps_shared_uses.proofs.run_queue.submit_all.Given as goal

abbrev pub invariant-loop-job : goal.invariant-loop-job
invariant-loop-job g l = (sent : List _) × (map ran l.fn.jobs ≡ sent ++ map ran l.job-iterator) × Moves ran sent [] l.fn.party l.party
