use Rattle.std.proofs.Common.{[], sym, subst}
use Rattle.cordyceps_c_base.specs.Tickets.{Fit}
use Rattle.cordyceps_c_base.proofs.Fitting.{new_fits}
use Rattle.cordyceps_c_timers.specs.Queues.{slot_of}
use Rattle.cordyceps_c_timers.proofs.queue.Queue.new.Goals as goal

pub invariant_of-result : goal.invariant_of-result
invariant_of-result c = record {
  fit = subst (Fit slot_of c.new.result) (sym c.new_with_order.ensures.nodes) (new_fits slot_of c.new.result c.new.ensures.empty);
  arrivals = [];
  held = c.new_with_order.ensures.arrivals _;
}
