use Rattle.std.proofs.Common.{subst}
use Rattle.cordyceps_c_timers.specs.Timers.{Restarts, Running}
use Rattle.cordyceps_c.proofs.timers.cordyceps_timers_restart.Goals as goal

pub returns : goal.returns
returns c =
    let tried = c.restart-is_restarted in
    rw c.in-Some.ensures.taken
    (tried.new.self, c.put.ensures, subst (λ (t : Running). Restarts c.args.timer c.args.deadline tried.result t tried.new.self) c.deref_mut.ensures.value tried.ensures)
