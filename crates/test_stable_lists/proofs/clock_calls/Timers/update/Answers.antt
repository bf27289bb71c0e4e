use Rattle.std.proofs.Common.{refl, sym, nat_eq}
use Rattle.std.specs.HashMap.{get}
use Rattle.test_stable_lists.proofs.Finding.{found_there, finds_moved}
use Rattle.test_stable_lists.proofs.clock_calls.Timers.update.Goals as goal

pub update-requires-clause-there : goal.update-requires-clause-there
update-requires-clause-there c =
    let spots = get nat_eq c.self.inside.spots in let nodes = c.self.inside.queue.nodes in
    found_there spots nodes c.args.number c.in_ok-spot.field-0.now c.self.invariant (sym c.in_ok-spot.ensures.value)

pub invariant_of-self : goal.invariant_of-self
invariant_of-self c =
    let (e, w, rest, gave, taken, put, stands) = c.update.ensures.changed in
    let spots = get nat_eq c.self.inside.spots in let nodes = c.self.inside.queue.nodes in
    let at = c.in_ok-spot.field-0.now in
    finds_moved spots nodes c.update.new.self.nodes rest at e _ c.self.invariant taken refl put
