use Rattle.std.proofs.Common.{None, sym, subst, nat_eq}
use Rattle.std.specs.HashMap.{get}
use Rattle.cordyceps_stable.specs.Agreeing.{IsUpdated}
use Rattle.test_stable_lists.proofs.Finding.{found_there, finds_taken}
use Rattle.test_stable_lists.proofs.clock_calls.Timers.remove.Goals as goal

pub remove-node-requires-clause-there : goal.remove-node-requires-clause-there
remove-node-requires-clause-there c = found_there (get nat_eq c.self.inside.spots) c.self.inside.queue.nodes c.args.number c.in_ok-spot.field-0.now c.self.invariant (sym c.in_ok-spot.ensures.value)

pub invariant_of-self : goal.invariant_of-self
invariant_of-self c =
    let f = get nat_eq c.self.inside.spots in let after = get nat_eq c.remove.new.self in
    finds_taken f after c.self.inside.queue.nodes c.remove-node.new.self.nodes c.in_ok-spot.field-0.now c.remove-node.result c.self.invariant (subst (λ n. IsUpdated f n None after) c.id.ensures c.remove.ensures.updates.0) c.remove-node.ensures.taken
