use Rattle.std.proofs.Common.{Option, subst}
use Rattle.cordyceps_c_base.proofs.Answering.{written}
use Rattle.cordyceps_c_timers.specs.declared.queue.Item.{Item}
use Rattle.cordyceps_c_timers.specs.Queues.{Removes, Queued}
use Rattle.cordyceps_c.proofs.queue.cordyceps_queue_remove.Goals as goal

pub returns : goal.returns
returns c =
    let tried = c.remove-removed in let out = c.write_found in
    let told = subst (λ (t : Queued). Removes c.args.item tried.result t tried.new.self) c.deref_mut.ensures.value tried.ensures in
    rw c.in-Some.ensures.taken
    (tried.new.self, c.put.ensures, written (λ (o : Option Item). Removes c.args.item o c.in-Some.held.value tried.new.self) tried.result out.result c.args.out.now out.new.out out.ensures told)
