-- A row that is parted at one of its nodes, with some before it.
use Rattle.std.proofs.Common.{◌≡◌, ℕ, zero, suc, ◌+◌, ◌-◌, ◌<◌, List, [], ◌∷◌, ◌++◌, length, take, drop, slice_get, Some, refl, arith}
use denote.RawPtr.{Ptr, null_ptr}
use Rattle.cordyceps_base.specs.declared.boxes.homes.Home.{Home}
use Rattle.cordyceps_base.specs.declared.boxes.Address.{Address}
use Rattle.cordyceps_base.specs.declared.node.Block.{Block}
use Rattle.cordyceps_base.specs.Boxes.{box_addresses, box_values, set_value}
use Rattle.cordyceps_base.specs.Nodes.{OwnedNode}
use Rattle.cordyceps_base.specs.DoubleChain.{Segment, next_of, prev_of}
use Rattle.cordyceps_base.proofs.DoubleChain.{cut_after, cut_before, first_on, last_on, relinked_first, relinked_last, segment_join, with_next, with_prev}
use Rattle.cordyceps_base.proofs.Nodes.{length-drop-within, length-take-within, within_values}
use Rattle.cordyceps_base.proofs.Segments.{first_one}

value_after : {X : Type 0} (k : ℕ) (ns : List (OwnedNode X)) (b : Block X) → slice_get (box_values ns) k ≡ Some b → slice_get (box_values (drop k ns)) 0 ≡ Some b
value_after k [] b e = cc
value_after zero (n ∷ ns) b e = e
value_after (suc k) (n ∷ ns) b e = value_after k ns b e

-- b: what node k, at `at`, holds
module _ {X : Type 0} (h t : Ptr) (ns : List (OwnedNode X)) (k : ℕ) (at : Ptr) (b : Block X) (linked : Segment null_ptr h ns t null_ptr) (on : slice_get (box_addresses ns) k ≡ Some at) (holds : slice_get (box_values ns) k ≡ Some b) where
  parts : Segment null_ptr h (take k ns) (prev_of b) at × Segment (prev_of b) at (drop k ns) t null_ptr
  parts = cut_before null_ptr h k ns t null_ptr at b linked on holds

  some_after : 0 < length (drop k ns)
  some_after = let less = within_values ns k b holds in let same = length-drop-within k ns less in omega (arith, less, same)

  before : 0 < k → suc (k - 1) ≡ length (take k ns)
  before pos = let same = length-take-within k ns (within_values ns k b holds) in omega (arith, pos, same)

  pub prev_there : 0 < k → slice_get (box_addresses (take k ns)) (k - 1) ≡ Some b.links.prev.ptr
  prev_there pos = last_on null_ptr h (take k ns) (prev_of b) at (k - 1) (before pos) parts.0

  pub node_there : slice_get (box_addresses (drop k ns)) 0 ≡ Some at
  node_there = first_on (prev_of b) at (drop k ns) t null_ptr parts.1 some_after

  after : Segment (prev_of b) at (take 1 (drop k ns)) at (next_of b) × Segment at (next_of b) (drop 1 (drop k ns)) t null_ptr
  after = cut_after (prev_of b) at 0 (drop k ns) t null_ptr at b parts.1 node_there (value_after k ns b holds)

  pub next_there : k + 1 < length ns → slice_get (box_addresses (drop 1 (drop k ns))) 0 ≡ Some b.links.next.ptr
  next_there more =
      let long = length-drop-within k ns (within_values ns k b holds) in let left = length-drop-within 1 (drop k ns) (omega (arith, more, long)) in
      first_on at (next_of b) (drop 1 (drop k ns)) t null_ptr after.1 (omega (arith, more, long, left))

  pub one_there : (a : Home) × (x : Block X) × (take 1 (drop k ns) ≡ (at, a, x) ∷ [])
  one_there = first_one (prev_of b) at (drop k ns) t null_ptr some_after parts.1

  -- the nodes before it, the last of which leads to another
  front_leads : 0 < k → (o : Block X) (next : Address) → slice_get (box_values (take k ns)) (k - 1) ≡ Some o → Segment null_ptr h (set_value (take k ns) (k - 1) (with_next o next)) (prev_of b) next.ptr
  front_leads pos o next e = relinked_last null_ptr h (take k ns) (prev_of b) at next o (k - 1) (before pos) parts.0 e

  -- its neighbours lead to one another
  pub linked_over : 0 < k → (o p : Block X) → slice_get (box_values (take k ns)) (k - 1) ≡ Some o → slice_get (box_values (drop 1 (drop k ns))) 0 ≡ Some p
      → Segment null_ptr h (set_value (take k ns) (k - 1) (with_next o b.links.next) ++ set_value (drop 1 (drop k ns)) 0 (with_prev p b.links.prev)) t null_ptr
  linked_over pos o p e f =
      segment_join null_ptr h (set_value (take k ns) (k - 1) (with_next o b.links.next)) (prev_of b) (next_of b) (set_value (drop 1 (drop k ns)) 0 (with_prev p b.links.prev)) t null_ptr
      (front_leads pos o b.links.next e) (relinked_first at (next_of b) (drop 1 (drop k ns)) t null_ptr b.links.prev p after.1 f)

  -- another node lies between it and the one before
  pub linked_with : 0 < k → (new : Address) (a : Home) (w o p : Block X) → prev_of w ≡ prev_of b → next_of w ≡ at → slice_get (box_values (take k ns)) (k - 1) ≡ Some o → slice_get (box_values (drop k ns)) 0 ≡ Some p
      → Segment null_ptr h (set_value (take k ns) (k - 1) (with_next o new) ++ ((new.ptr, a, w) ∷ [] ++ set_value (drop k ns) 0 (with_prev p new))) t null_ptr
  linked_with pos new a w o p back on e f =
      let later = relinked_first (prev_of b) at (drop k ns) t null_ptr new p parts.1 f in
      segment_join null_ptr h (set_value (take k ns) (k - 1) (with_next o new)) (prev_of b) new.ptr ((new.ptr, a, w) ∷ set_value (drop k ns) 0 (with_prev p new)) t null_ptr
      (front_leads pos o new e) ((refl, back), segment_join new.ptr (next_of w) [] new.ptr at (set_value (drop k ns) 0 (with_prev p new)) t null_ptr (on, refl) later)
