use Rattle.cordyceps_shared_uses.specs.RunQueue.{Worked}
use Rattle.cordyceps_shared_uses.proofs.run_queue.work.Given as goal

abbrev pub invariant-loop : goal.invariant-loop
invariant-loop g l = Worked l.done l.fn.party l.party
