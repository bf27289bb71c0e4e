use Rattle.std.specs.Vec.Iter.{into_iter_items, into_iter_len}
use Rattle.cordyceps_disk.proofs.Running.{Carries}
use Rattle.cordyceps_disk.proofs.laws.carry_out.Given as goal

abbrev pub invariant-loop-step : goal.invariant-loop-step
invariant-loop-step g l =
    Carries l.fn.steps.items l.fn.queue l.served.items (into_iter_items l.step-iterator) l.queue (into_iter_len l.step-iterator)
