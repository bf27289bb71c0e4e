use Rattle.std.proofs.Common.{nat_eq}
use Rattle.std.specs.HashMap.{get}
use Rattle.cordyceps_heap.specs.Heap.{nodes_in}
use Rattle.test_stable_lists.proofs.Finding.{finds_permuted}
use Rattle.test_stable_lists.proofs.heap_calls.Keys.front.Goals as goal

pub invariant_of-self : goal.invariant_of-self
invariant_of-self c = finds_permuted (get nat_eq c.self.inside.spots) (nodes_in c.self.inside.heap) (nodes_in c.front.new.self) c.self.invariant c.front.ensures.kept

pub invariant_of-self-2 : goal.invariant_of-self-2
invariant_of-self-2 c = finds_permuted (get nat_eq c.self.inside.spots) (nodes_in c.self.inside.heap) (nodes_in c.front.new.self) c.self.invariant c.front.ensures.kept
