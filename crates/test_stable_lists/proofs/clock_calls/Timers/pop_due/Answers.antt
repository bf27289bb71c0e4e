use Rattle.std.proofs.Common.{None, subst, nat_eq}
use Rattle.std.specs.HashMap.{get}
use Rattle.cordyceps_stable.specs.Agreeing.{IsUpdated}
use Rattle.test_stable_lists.proofs.Finding.{finds_permuted, finds_popped}
use Rattle.test_stable_lists.proofs.clock_calls.Timers.pop_due.Goals as goal

pub invariant_of-self : goal.invariant_of-self
invariant_of-self c =
    let (clock, kept, later) = c.in_err-node.ensures.due in
    finds_permuted (get nat_eq c.self.inside.spots) c.self.inside.queue.nodes c.pop_due.new.self.nodes c.self.invariant kept

pub invariant_of-self-2 : goal.invariant_of-self-2
invariant_of-self-2 c =
    let f = get nat_eq c.self.inside.spots in let after = get nat_eq c.remove.new.self in let (spot, first, kept) = c.in_ok-node.ensures.due in
    finds_popped f after c.self.inside.queue.nodes c.pop_due.new.self.nodes spot c.in_ok-node.node c.self.invariant (subst (λ n. IsUpdated f n None after) c.id.ensures c.remove.ensures.updates.0) kept
