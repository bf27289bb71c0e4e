use Rattle.std.proofs.Common.{None, subst, nat_eq}
use Rattle.std.specs.HashMap.{get}
use Rattle.cordyceps_stable.specs.Agreeing.{IsUpdated}
use Rattle.test_stable_lists.proofs.Finding.{finds_taken}
use Rattle.test_stable_lists.proofs.clock_calls.Timers.remove_front.Goals as goal

pub invariant_of-self : goal.invariant_of-self
invariant_of-self c =
    let f = get nat_eq c.self.inside.spots in let after = get nat_eq c.remove.new.self in
    finds_taken f after c.self.inside.queue.nodes c.remove-node.new.self.nodes c.in_ok-spot.spot c.remove-node.result c.self.invariant (subst (λ n. IsUpdated f n None after) c.id.ensures c.remove.ensures.updates.0) c.remove-node.ensures.taken
