use Rattle.std.proofs.Common.{None, subst, nat_eq}
use Rattle.std.specs.HashMap.{get}
use Rattle.cordyceps_stable.specs.Agreeing.{IsUpdated}
use Rattle.test_stable_lists.proofs.Finding.{finds_popped}
use Rattle.test_stable_lists.proofs.clock_calls.Timers.pop_front.Goals as goal

pub invariant_of-self-2 : goal.invariant_of-self-2
invariant_of-self-2 c =
    let f = get nat_eq c.self.inside.spots in let after = get nat_eq c.remove.new.self in let (spot, first, kept) = c.in_ok-node.ensures.taken in
    finds_popped f after c.self.inside.queue.nodes c.pop_front.new.self.nodes spot c.in_ok-node.node c.self.invariant (subst (λ n. IsUpdated f n None after) c.id.ensures c.remove.ensures.updates.0) kept
