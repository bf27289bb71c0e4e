-- A tree of which one value was written.
use Rattle.std.proofs.Common.{◌≡◌, ℕ, zero, suc, if◌then◌else◌, List, [], ◌∷◌, length, slice_get, Some, refl, sym, ap, ◌∙◌, subst}
use denote.RawPtr.{Ptr}
use Rattle.cordyceps_base.specs.Boxes.{box_addresses, box_values, set_value}
use Rattle.cordyceps_base.specs.Element.{values}
use Rattle.cordyceps_base.specs.Nodes.{Nodes, spots, elements, with_item}
use Rattle.cordyceps_base.specs.Spots.{same_ptr, index_of, AreDistinct, AreNullComparable}
use Rattle.cordyceps_tree.specs.declared.block.Block.{Block}
use Rattle.cordyceps_tree.specs.declared.hook.Hook.{Hook}
use Rattle.cordyceps_tree.specs.Rows.{Held, block_of, block_element, nodes_of, hook_at, IsWhole}
use Rattle.cordyceps_tree.specs.Trees.{IsSettled, first_in}
use Rattle.cordyceps_tree.proofs.HookRows.{addresses_set}
use Rattle.cordyceps_tree.proofs.Placing.{spots_of}

module _ {X : Type 0} where
  hook_same : (ns : List (Held X)) (k : ℕ) (b : Block X) (w : X) (q : Ptr) → slice_get (box_values ns) k ≡ Some b → hook_at (set_value ns k (record b { value = w })) q ≡ hook_at ns q
  hook_same [] k b w q e = refl
  hook_same (n ∷ ns) zero b w q e = let same : block_of n ≡ b = cc in ap (λ (x : Block X). if same_ptr q n.0 then x.hook else hook_at ns q) (sym same)
  hook_same (n ∷ ns) (suc k) b w q e = ap (λ (h : Hook). if same_ptr q n.0 then (block_of n).hook else h) (hook_same ns k b w q e)

  nodes_written : (ns : List (Held X)) (k : ℕ) (b : Block X) (w : X) → slice_get (box_values ns) k ≡ Some b → nodes_of (set_value ns k (record b { value = w })) ≡ with_item (nodes_of ns) k w
  nodes_written [] k b w e = refl
  nodes_written (n ∷ ns) zero b w e = let same : block_of n ≡ b = cc in ap (λ (x : Block X). (n.0, record { id = x.id; value = w }) ∷ nodes_of ns) (sym same)
  nodes_written (n ∷ ns) (suc k) b w e = ap (λ l. (n.0, block_element (block_of n)) ∷ l) (nodes_written ns k b w e)

  value_on : (ns : List (Held X)) (k : ℕ) (b : Block X) → slice_get (box_values ns) k ≡ Some b → slice_get (values (elements (nodes_of ns))) k ≡ Some b.value
  value_on [] k b e = cc
  value_on (n ∷ ns) zero b e = let same : block_of n ≡ b = cc in ap (λ (x : Block X). Some x.value) same
  value_on (n ∷ ns) (suc k) b e = value_on ns k b e

  long_set : (ns : List (Held X)) (k : ℕ) (b : Block X) → length (set_value ns k b) ≡ length ns
  long_set [] k b = refl
  long_set (n ∷ ns) zero b = refl
  long_set (n ∷ ns) (suc k) b = ap suc (long_set ns k b)

  module _ (ns : List (Held X)) (k : ℕ) (b : Block X) (at : slice_get (box_values ns) k ≡ Some b) (w : X) where
    abbrev ms : List (Held X)
    ms = set_value ns k (record b { value = w })

    on : box_addresses ns ≡ box_addresses ms
    on = sym (addresses_set ns k (record b { value = w }))

    hooks : hook_at ns ≡ hook_at ms
    hooks = λ i q. sym (hook_same ns k b w q at) i

    pub written_whole : (root first : Ptr) (len : ℕ) → IsWhole root first len ns → IsWhole root first len ms
    written_whole root first len u = record {
      tree = record {
        settled = subst (λ ps. IsSettled (hook_at ms) ps root) on (subst (λ f. IsSettled f (box_addresses ns) root) hooks u.tree.settled);
        distinct = subst AreDistinct on u.tree.distinct;
        comparable = subst AreNullComparable on u.tree.comparable;
      };
      front = u.front ∙ ap first_in on;
      long = u.long ∙ sym (long_set ns k (record b { value = w }));
    }

  module _ (ns : List (Held X)) (c : Nodes X) (view : nodes_of ns ≡ c) (p q : Ptr) (is : p ≡ q) (b : Block X) (at : slice_get (box_values ns) (index_of p (box_addresses ns)) ≡ Some b) where
    same : box_addresses ns ≡ spots c
    same = sym (spots_of ns) ∙ ap spots view

    pub written_view : (w : X) → nodes_of (set_value ns (index_of p (box_addresses ns)) (record b { value = w })) ≡ with_item c (index_of q (spots c)) w
    written_view w = nodes_written ns (index_of p (box_addresses ns)) b w at ∙ (λ i. with_item (view i) (index_of (is i) (same i)) w)

    pub shown_value : slice_get (values (elements c)) (index_of q (spots c)) ≡ Some b.value
    shown_value = sym (λ i. slice_get (values (elements (view i))) (index_of (is i) (same i))) ∙ value_on ns (index_of p (box_addresses ns)) b at
