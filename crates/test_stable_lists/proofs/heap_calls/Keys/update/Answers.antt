use Rattle.std.proofs.Common.{refl, sym, nat_eq}
use Rattle.std.specs.HashMap.{get}
use Rattle.cordyceps_heap.specs.Heap.{nodes_in}
use Rattle.test_stable_lists.proofs.Finding.{found_there, finds_changed}
use Rattle.test_stable_lists.proofs.heap_calls.Keys.update.Goals as goal

pub update-requires-clause-there : goal.update-requires-clause-there
update-requires-clause-there c = found_there (get nat_eq c.self.inside.spots) (nodes_in c.self.inside.heap) c.args.number c.in_ok-spot.field-0.now c.self.invariant (sym c.in_ok-spot.ensures.value)

pub invariant_of-self : goal.invariant_of-self
invariant_of-self c =
    let (e, w, rest, gave, taken, kept, stands) = c.update.ensures.changed in
    finds_changed (get nat_eq c.self.inside.spots) (nodes_in c.self.inside.heap) (nodes_in c.update.new.self) rest c.in_ok-spot.field-0.now e _ c.self.invariant taken refl kept
