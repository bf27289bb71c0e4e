-- What a clause sees of the nodes of a chain, whatever their links.
use Rattle.std.proofs.Common.{◌≡◌, ℕ, zero, suc, ◌-◌, ◌<◌, List, [], ◌∷◌, ◌++◌, length, take, drop, slice_get, Some, refl, sym, ap, ◌∙◌, subst, arith}
use denote.RawPtr.{Ptr}
use Rattle.cordyceps_base.specs.declared.node.Block.{Block}
use Rattle.cordyceps_base.specs.Boxes.{box_addresses, box_values, set_value}
use Rattle.cordyceps_base.specs.Element.{ids, values as values_of}
use Rattle.cordyceps_base.specs.Nodes.{Nodes, spots, elements, with_item, OwnedNode, block_of, block_element, nodes_of}

-- the block with another value
abbrev pub with_content : {X : Type 0} → Block X → X → Block X
with_content b w = record b { value = w }

-- nodes in order, as a chain owns them
abbrev pub Row : Type 0 → Type 0
Row X = List (OwnedNode X)

module _ {X : Type 0} where
  -- ---- what is shown
  pub spots-nodes_of : (ns : List (OwnedNode X)) → spots (nodes_of ns) ≡ box_addresses ns
  spots-nodes_of [] = refl
  spots-nodes_of (n ∷ ns) = ap (λ ps. n.0 ∷ ps) (spots-nodes_of ns)

  pub length-nodes_of : (ns : List (OwnedNode X)) → length (nodes_of ns) ≡ length ns
  length-nodes_of [] = refl
  length-nodes_of (n ∷ ns) = ap suc (length-nodes_of ns)

  pub nodes_of-append : (ns ms : List (OwnedNode X)) → nodes_of (ns ++ ms) ≡ nodes_of ns ++ nodes_of ms
  nodes_of-append [] ms = refl
  nodes_of-append (n ∷ ns) ms = ap (λ l. (n.0, block_element (block_of n)) ∷ l) (nodes_of-append ns ms)

  pub nodes_of-take : (k : ℕ) (ns : List (OwnedNode X)) → nodes_of (take k ns) ≡ take k (nodes_of ns)
  nodes_of-take zero ns = refl
  nodes_of-take (suc k) [] = refl
  nodes_of-take (suc k) (n ∷ ns) = ap (λ l. (n.0, block_element (block_of n)) ∷ l) (nodes_of-take k ns)

  pub nodes_of-drop : (k : ℕ) (ns : List (OwnedNode X)) → nodes_of (drop k ns) ≡ drop k (nodes_of ns)
  nodes_of-drop zero ns = refl
  nodes_of-drop (suc k) [] = refl
  nodes_of-drop (suc k) (n ∷ ns) = nodes_of-drop k ns

  -- a block that keeps its number and value shows the same
  pub nodes_of-set : (ns : List (OwnedNode X)) (k : ℕ) (b w : Block X) → slice_get (box_values ns) k ≡ Some b → w.id ≡ b.id → w.value ≡ b.value → nodes_of (set_value ns k w) ≡ nodes_of ns
  nodes_of-set [] k b w e i v = refl
  nodes_of-set (n ∷ ns) zero b w e i v = let same : block_of n ≡ b = cc in λ j. (n.0, record { id = (i ∙ ap (λ (x : Block X). x.id) (sym same)) j; value = (v ∙ ap (λ (x : Block X). x.value) (sym same)) j }) ∷ nodes_of ns
  nodes_of-set (n ∷ ns) (suc k) b w e i v = ap (λ l. (n.0, block_element (block_of n)) ∷ l) (nodes_of-set ns k b w e i v)

  pub box_addresses-set : (ns : List (OwnedNode X)) (k : ℕ) (w : Block X) → box_addresses (set_value ns k w) ≡ box_addresses ns
  box_addresses-set [] k w = refl
  box_addresses-set (n ∷ ns) zero w = refl
  box_addresses-set (n ∷ ns) (suc k) w = ap (λ ps. n.0 ∷ ps) (box_addresses-set ns k w)

  pub item_on : (ns : List (OwnedNode X)) (k : ℕ) (b : Block X) → slice_get (box_values ns) k ≡ Some b → slice_get (values_of (elements (nodes_of ns))) k ≡ Some b.value
  item_on [] k b e = cc
  item_on (n ∷ ns) zero b e = let same : block_of n ≡ b = cc in ap (λ (x : Block X). Some x.value) same
  item_on (n ∷ ns) (suc k) b e = item_on ns k b e

  pub id_on : (ns : List (OwnedNode X)) (k : ℕ) (b : Block X) → slice_get (box_values ns) k ≡ Some b → slice_get (ids (elements (nodes_of ns))) k ≡ Some b.id
  id_on [] k b e = cc
  id_on (n ∷ ns) zero b e = let same : block_of n ≡ b = cc in ap (λ (x : Block X). Some x.id) same
  id_on (n ∷ ns) (suc k) b e = id_on ns k b e

  module _ (ns : List (OwnedNode X)) (v : Nodes X) (seen : nodes_of ns ≡ v) where
    pub spots_are : spots v ≡ box_addresses ns
    spots_are = ap spots (sym seen) ∙ spots-nodes_of ns

    pub length_is : length v ≡ length ns
    length_is = ap length (sym seen) ∙ length-nodes_of ns

    pub at_place : (k : ℕ) (p : Ptr) → slice_get (spots v) k ≡ Some p → slice_get (box_addresses ns) k ≡ Some p
    at_place k p = subst (λ ps. slice_get ps k ≡ Some p) spots_are

    pub seen_at : (k : ℕ) (p : Ptr) → slice_get (box_addresses ns) k ≡ Some p → slice_get (spots v) k ≡ Some p
    seen_at k p = subst (λ ps. slice_get ps k ≡ Some p) (sym spots_are)

  pub within_values : (ns : List (OwnedNode X)) (k : ℕ) (b : Block X) → slice_get (box_values ns) k ≡ Some b → k < length ns
  within_values [] k b e = cc
  within_values (n ∷ ns) zero b e = omega arith
  within_values (n ∷ ns) (suc k) b e = let on = within_values ns k b e in omega arith

  pub length-take-within : (k : ℕ) (ns : List (OwnedNode X)) → k < length ns → k ≡ length (take k ns)
  length-take-within zero ns p = refl
  length-take-within (suc k) [] p = absurd (omega arith)
  length-take-within (suc k) (n ∷ ns) p = ap suc (length-take-within k ns (omega arith))

  pub length-drop-within : (k : ℕ) (ns : List (OwnedNode X)) → k < length ns → length ns - k ≡ length (drop k ns)
  length-drop-within zero ns p = omega arith
  length-drop-within (suc k) [] p = absurd (omega arith)
  length-drop-within (suc k) (n ∷ ns) p = let on = length-drop-within k ns (omega arith) in omega arith

  pub length-set_value : (ns : List (OwnedNode X)) (k : ℕ) (w : Block X) → length (set_value ns k w) ≡ length ns
  length-set_value [] k w = refl
  length-set_value (n ∷ ns) zero w = refl
  length-set_value (n ∷ ns) (suc k) w = ap suc (length-set_value ns k w)

  pub nodes_of-item : (ns : List (OwnedNode X)) (k : ℕ) (b : Block X) (w : X) → slice_get (box_values ns) k ≡ Some b → nodes_of (set_value ns k (with_content b w)) ≡ with_item (nodes_of ns) k w
  nodes_of-item [] k b w e = refl
  nodes_of-item (n ∷ ns) zero b w e = let same : block_of n ≡ b = cc in ap (λ (x : Block X). (n.0, record { id = x.id; value = w }) ∷ nodes_of ns) (sym same)
  nodes_of-item (n ∷ ns) (suc k) b w e = ap (λ l. (n.0, block_element (block_of n)) ∷ l) (nodes_of-item ns k b w e)
