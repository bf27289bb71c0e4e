use Rattle.std.proofs.Common.{nat_eq}
use Rattle.std.specs.HashMap.{get}
use Rattle.cordyceps_heap.specs.Heap.{nodes_in}
use Rattle.test_stable_lists.proofs.Finding.{finds_joined}
use Rattle.test_stable_lists.proofs.heap_calls.Keys.append.Goals as goal

pub invariant_of-self : goal.invariant_of-self
invariant_of-self g c = finds_joined (get nat_eq c.self.inside.spots) (nodes_in c.self.inside.heap) _ (nodes_in c.append.new.self) c.self.invariant c.append.ensures.kept
