use Rattle.std.proofs.Common.{sym, nat_eq}
use Rattle.std.specs.HashMap.{get}
use Rattle.test_stable_lists.proofs.Finding.{found_there}
use Rattle.test_stable_lists.proofs.clock_calls.Timers.get.Goals as goal

pub get-requires-2 : goal.get-requires-2
get-requires-2 c = found_there (get nat_eq c.self.inside.spots) c.self.inside.queue.nodes c.args.number c.in_ok-spot.field-0.now c.self.invariant (sym c.in_ok-spot.ensures.value)
