-- What a row shows once a value was written.
use Rattle.std.proofs.Common.{◌≡◌, ℕ, zero, suc, true, if◌then◌else◌, List, [], ◌∷◌, slice_get, Some, refl, sym, ap, ◌∙◌, subst}
use denote.RawPtr.{Ptr}
use Rattle.cordyceps_base.specs.Boxes.{box_addresses, box_values, set_value}
use Rattle.cordyceps_base.specs.BySpot.{HasSpot}
use Rattle.cordyceps_base.specs.Element.{values}
use Rattle.cordyceps_base.specs.Nodes.{Nodes, spots, elements, with_item}
use Rattle.cordyceps_base.specs.Spots.{same_ptr, index_of, AreDistinct, AreNullComparable}
use Rattle.cordyceps_base.proofs.Places.{spots-with_item}
use Rattle.cordyceps_many.specs.declared.block.Block.{Block}
use Rattle.cordyceps_many.specs.declared.hook.Hook.{Hook}
use Rattle.cordyceps_many.specs.declared.hook.Ends.{Ends}
use Rattle.cordyceps_many.specs.Rows.{Held, block_of, block_element, nodes_of, hook_at}
use Rattle.cordyceps_many.specs.Threads.{is_in, hook_in, ends_in, walk}
use Rattle.cordyceps_many.specs.MultiList.{Multi, thread, lists_in, IsMulti}
use Rattle.cordyceps_many.specs.MultiLends.{with_value_at}
use Rattle.cordyceps_many.proofs.HookRows.{addresses_set}
use Rattle.cordyceps_many.proofs.Shared.{own, moved, spots_are}

module _ {X : Type 0} where
  pub written_keeps : (c : Nodes X) (k : ℕ) (w : X) (q : Ptr) → HasSpot c q → HasSpot (with_item c k w) q
  written_keeps c k w q h = (h.0, subst (λ s. slice_get s h.0 ≡ Some q) (sym (spots-with_item c k w)) h.1)

module _ {X Y A E : Type 0} where
  -- the block with another value
  abbrev pub with_content : Block X Y A E → X → Block X Y A E
  with_content b w = record b { value = w }

  hook_same : (ns : List (Held X Y A E)) (k : ℕ) (b : Block X Y A E) (w : X) (i : ℕ) (q : Ptr) → slice_get (box_values ns) k ≡ Some b → hook_at (set_value ns k (with_content b w)) i q ≡ hook_at ns i q
  hook_same [] k b w i q e = refl
  hook_same (n ∷ ns) zero b w i q e = let same : block_of n ≡ b = cc in ap (λ (x : Block X Y A E). if same_ptr q n.0 then hook_in x.hooks i else hook_at ns i q) (sym same)
  hook_same (n ∷ ns) (suc k) b w i q e = ap (λ (h : Hook). if same_ptr q n.0 then hook_in (block_of n).hooks i else h) (hook_same ns k b w i q e)

  pub nodes_written : (ns : List (Held X Y A E)) (k : ℕ) (b : Block X Y A E) (w : X) → slice_get (box_values ns) k ≡ Some b → nodes_of (set_value ns k (with_content b w)) ≡ with_item (nodes_of ns) k w
  nodes_written [] k b w e = refl
  nodes_written (n ∷ ns) zero b w e = let same : block_of n ≡ b = cc in ap (λ (x : Block X Y A E). (n.0, record { id = x.id; value = w }) ∷ nodes_of ns) (sym same)
  nodes_written (n ∷ ns) (suc k) b w e = ap (λ l. (n.0, block_element (block_of n)) ∷ l) (nodes_written ns k b w e)

  value_on : (ns : List (Held X Y A E)) (k : ℕ) (b : Block X Y A E) → slice_get (box_values ns) k ≡ Some b → slice_get (values (elements (nodes_of ns))) k ≡ Some b.value
  value_on [] k b e = cc
  value_on (n ∷ ns) zero b e = let same : block_of n ≡ b = cc in ap (λ (x : Block X Y A E). Some x.value) same
  value_on (n ∷ ns) (suc k) b e = value_on ns k b e

  module _ (ns : List (Held X Y A E)) (k : ℕ) (b : Block X Y A E) (at : slice_get (box_values ns) k ≡ Some b) (w : X) where
    abbrev ms : List (Held X Y A E)
    ms = set_value ns k (with_content b w)

    lists_same : (i : ℕ) (es : List Ends) → lists_in ms i es ≡ lists_in ns i es
    lists_same i [] = refl
    lists_same i (e ∷ es) = λ j. walk (λ q. hook_same ns k b w i q at j) e.len e.first.ptr ∷ lists_same (suc i) es j

    pub written_multi : (count : ℕ) (es : List Ends) → IsMulti count es ns → IsMulti count es ms
    written_multi count es m =
        let same : box_addresses ms ≡ box_addresses ns = addresses_set ns k (with_content b w) in
        record {
          parts = record {
            long = m.parts.long;
            distinct = subst AreDistinct (sym same) m.parts.distinct;
            comparable = subst AreNullComparable (sym same) m.parts.comparable;
            threads = λ i. own (hook_at ms i) (ends_in es i) (thread ns i (ends_in es i)) (moved (hook_at ns i) (hook_at ms i) (ends_in es i) (thread ns i (ends_in es i)) (λ q. hook_same ns k b w i q at) (m.parts.threads i));
          };
          whole = λ p there. ap (λ (h : Hook). h.linked) (hook_same ns k b w 0 p at) ∙ m.whole p (subst (λ a. is_in p a ≡ true) same there);
        }

  module _ (ns : List (Held X Y A E)) (es : List Ends) (v : Multi X) (seen : record { nodes = nodes_of ns; lists = lists_in ns 0 es } ≡ v) (p q : Ptr) (is : p ≡ q) (b : Block X Y A E) (at : slice_get (box_values ns) (index_of p (box_addresses ns)) ≡ Some b) where
    on : box_addresses ns ≡ spots v.nodes
    on = sym (spots_are ns) ∙ ap (λ (m : Multi X). spots m.nodes) seen

    pub written_view : (w : X) → record { nodes = nodes_of (set_value ns (index_of p (box_addresses ns)) (with_content b w)); lists = lists_in (set_value ns (index_of p (box_addresses ns)) (with_content b w)) 0 es } ≡ with_value_at v q w
    written_view w =
        let k = index_of p (box_addresses ns) in
        let nodes : nodes_of (set_value ns k (with_content b w)) ≡ with_item v.nodes (index_of q (spots v.nodes)) w = nodes_written ns k b w at ∙ (λ i. with_item (seen i).nodes (index_of (is i) (on i)) w) in
        let lists : lists_in (set_value ns k (with_content b w)) 0 es ≡ v.lists = lists_same ns k b at w 0 es ∙ ap (λ (m : Multi X). m.lists) seen in
        λ i. record { nodes = nodes i; lists = lists i }

    pub shown_value : slice_get (values (elements v.nodes)) (index_of q (spots v.nodes)) ≡ Some b.value
    shown_value = sym (λ i. slice_get (values (elements (seen i).nodes)) (index_of (is i) (on i))) ∙ value_on ns (index_of p (box_addresses ns)) b at
