use Rattle.std.proofs.Common.{◌≡◌, []}
use Rattle.cordyceps.specs.Transfers.Moves.{Moves}
use Rattle.cordyceps_shared_uses.specs.RunQueue.{ran}
use Rattle.cordyceps_shared_uses.proofs.run_queue.submit.Given as goal

abbrev pub invariant-loop : goal.invariant-loop
invariant-loop g l = (l.job ≡ l.initial.job) × Moves ran [] [] l.initial.party l.party
