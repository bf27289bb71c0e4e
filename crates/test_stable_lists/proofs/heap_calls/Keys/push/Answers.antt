use Rattle.std.proofs.Common.{OnOk, Some, sym, subst, nat_eq}
use Rattle.std.specs.HashMap.{get, Updates}
use Rattle.cordyceps_heap.specs.Heap.{nodes_in}
use Rattle.test_stable_lists.proofs.Finding.{finds_pushed}
use Rattle.test_stable_lists.proofs.heap_calls.Keys.push.Goals as goal

pub invariant_of-self : goal.invariant_of-self
invariant_of-self g c =
    let spots = c.self.inside.spots in let after = c.insert.new.self in let number = c.id-number.result in let spot = c.push-spot.result in
    let updated = subst (λ r. OnOk r (Updates nat_eq spots after number (Some spot))) c.made.ensures c.insert.ensures.updates in
    finds_pushed (get nat_eq spots) (get nat_eq after) (nodes_in c.self.inside.heap) (nodes_in c.push-spot.new.self) number spot c.make-node.result c.self.invariant (sym c.id-number.ensures) updated.0 c.push-spot.ensures.kept
