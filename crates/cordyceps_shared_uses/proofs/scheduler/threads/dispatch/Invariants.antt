use Rattle.cordyceps_shared_uses.specs.Ways.{Came}
use Rattle.cordyceps_shared_uses.proofs.scheduler.threads.dispatch.Given as goal

abbrev pub invariant-loop : goal.invariant-loop
invariant-loop g l = Came l.initial.mine l.mine l.initial.party l.party
