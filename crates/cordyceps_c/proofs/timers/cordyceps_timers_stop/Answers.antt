use Rattle.std.proofs.Common.{Option, subst}
use Rattle.cordyceps_c_base.proofs.Answering.{written}
use Rattle.cordyceps_c_timers.specs.declared.timers.Fired.{Fired}
use Rattle.cordyceps_c_timers.specs.Timers.{Stops, Running}
use Rattle.cordyceps_c.proofs.timers.cordyceps_timers_stop.Goals as goal

pub returns : goal.returns
returns c =
    let tried = c.stop-stopped in let out = c.write_found in
    let told = subst (λ (t : Running). Stops c.args.timer tried.result t tried.new.self) c.deref_mut.ensures.value tried.ensures in
    rw c.in-Some.ensures.taken
    (tried.new.self, c.put.ensures, written (λ (o : Option Fired). Stops c.args.timer o c.in-Some.held.value tried.new.self) tried.result out.result c.args.out.now out.new.out out.ensures told)
