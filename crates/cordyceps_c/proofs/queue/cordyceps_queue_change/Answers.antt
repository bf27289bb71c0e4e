use Rattle.std.proofs.Common.{subst}
use Rattle.cordyceps_c_timers.specs.Queues.{Changes, Queued}
use Rattle.cordyceps_c.proofs.queue.cordyceps_queue_change.Goals as goal

pub returns : goal.returns
returns c =
    let tried = c.change-is_changed in
    rw c.in-Some.ensures.taken
    (tried.new.self, c.put.ensures, subst (λ (t : Queued). Changes c.args.item c.args.key tried.result t tried.new.self) c.deref_mut.ensures.value tried.ensures)
