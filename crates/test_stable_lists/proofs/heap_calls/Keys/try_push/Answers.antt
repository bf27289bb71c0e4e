use Rattle.std.proofs.Common.{OnOk, Some, sym, subst, nat_eq}
use Rattle.std.specs.HashMap.{get, Updates}
use Rattle.cordyceps_heap.specs.Heap.{nodes_in}
use Rattle.test_stable_lists.specs.Finding.{Finds}
use Rattle.test_stable_lists.proofs.Finding.{finds_pushed}
use Rattle.test_stable_lists.proofs.heap_calls.Keys.try_push.Goals as goal

pub invariant_of-self : goal.invariant_of-self
invariant_of-self g c =
    let spots = c.self.inside.spots in let after = c.insert.new.self in let number = c.id-number.result in let spot = c.in-Ok.spot in
    let updated = subst (λ r. OnOk r (Updates nat_eq spots after number (Some spot))) c.made.ensures c.insert.ensures.updates in
    let (less, kept, stands) = c.in-Ok.ensures.pushed in
    finds_pushed (get nat_eq spots) (get nat_eq after) (nodes_in c.self.inside.heap) (nodes_in c.try_push.new.self) number spot c.make-node.result c.self.invariant (sym c.id-number.ensures) updated.0 kept

pub invariant_of-self-in-Err : goal.invariant_of-self-in-Err
invariant_of-self-in-Err g c =
    let (most, back, same) = c.in-Err.ensures.pushed in
    subst (λ h. Finds (get nat_eq c.self.inside.spots) (nodes_in h)) (sym same) c.self.invariant
