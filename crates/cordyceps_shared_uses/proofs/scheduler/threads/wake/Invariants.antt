use Rattle.cordyceps_shared_uses.specs.Ways.{Woken}
use Rattle.cordyceps_shared_uses.proofs.scheduler.threads.wake.Given as goal

abbrev pub invariant-loop-turn : goal.invariant-loop-turn
invariant-loop-turn g l = Woken l.initial.mine l.mine l.initial.party l.party
