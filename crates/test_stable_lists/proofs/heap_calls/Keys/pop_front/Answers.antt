use Rattle.std.proofs.Common.{◌∷◌, None, subst, nat_eq}
use Rattle.std.proofs.lemmas.List.Sorted.{IsPermutation-sym}
use Rattle.std.specs.HashMap.{get}
use Rattle.cordyceps_stable.specs.Agreeing.{IsUpdated}
use Rattle.cordyceps_heap.specs.Heap.{nodes_in}
use Rattle.test_stable_lists.proofs.Finding.{finds_popped}
use Rattle.test_stable_lists.proofs.heap_calls.Keys.pop_front.Goals as goal

pub invariant_of-self-2 : goal.invariant_of-self-2
invariant_of-self-2 c =
    let f = get nat_eq c.self.inside.spots in let after = get nat_eq c.remove.new.self in
    let (spot, kept, least) = c.in_ok-node.ensures.taken in
    finds_popped f after (nodes_in c.self.inside.heap) (nodes_in c.pop_front.new.self) spot c.in_ok-node.node c.self.invariant (subst (λ n. IsUpdated f n None after) c.id.ensures c.remove.ensures.updates.0)
    (IsPermutation-sym (nodes_in c.self.inside.heap) ((spot, c.in_ok-node.node) ∷ nodes_in c.pop_front.new.self) kept)
