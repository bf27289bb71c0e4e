use Rattle.std.specs.NonNull.{non_null_ptr}
use Rattle.cordyceps_c_base.proofs.Held.{held_told}
use Rattle.cordyceps_c_timers.proofs.timers_handle.TimersHandle.is_some.Goals as goal

pub returns-clause-found : goal.returns-clause-found
returns-clause-found c =
    let (here, same, at) = c.place.ensures in let n = c.new.ensures in let self = c.args.self.now in
    held_told non_null_ptr self.at c.place.result self.held c.new.result c.is_some.result here at n.null n.value n.non_null c.is_some.ensures
