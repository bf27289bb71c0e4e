use Rattle.cordyceps_queue.proofs.CoreTheory.TryGoesOn.{Going}
use Rattle.cordyceps_queue.proofs.cores.machine.Machine.try_holding.Given as goal

abbrev pub invariant-loop : goal.invariant-loop
invariant-loop g l = Going l.fn.party l.fn.self l.self l.counter
