-- A row of one node.
use Rattle.std.proofs.Common.{◌≡◌, List, [], ◌∷◌, slice_get, Some, refl, sym, ap, ◌∙◌}
use denote.RawPtr.{Ptr}
use Rattle.cordyceps_base.specs.declared.boxes.homes.Home.{Home}
use Rattle.cordyceps_base.specs.Boxes.{box_addresses, box_values, set_value}
use Rattle.cordyceps_base.specs.Element.{Element}
use Rattle.cordyceps_base.specs.Nodes.{Nodes}
use Rattle.cordyceps_tree.specs.declared.block.Block.{Block}
use Rattle.cordyceps_tree.specs.Rows.{Held, block_of, block_element, nodes_of}

module _ {X : Type 0} where
  -- the node of such a row
  pub record IsAlone (one : List (Held X)) (p : Ptr) (e : Element X) : Type 0 where
    pub alloc : Home
    pub block : Block X
    pub shows : block_element block ≡ e
    pub is : one ≡ (p, alloc, block) ∷ []

  none_of : (ns : List (Held X)) → nodes_of ns ≡ [] → ns ≡ []
  none_of [] e = refl
  none_of (n ∷ ns) e = absurd cc

  abbrev head_of : Ptr × Element X → Nodes X → Ptr × Element X
  head_of d [] = d
  head_of d (n ∷ c) = n

  abbrev tail_of : Nodes X → Nodes X
  tail_of [] = []
  tail_of (n ∷ c) = c

  pub alone_of : (one : List (Held X)) (p : Ptr) (e : Element X) → nodes_of one ≡ (p, e) ∷ [] → IsAlone one p e
  alone_of [] p e is = absurd cc
  alone_of (n ∷ ns) p e is =
      let at : n.0 ≡ p = ap (λ c. (head_of (p, e) c).0) is in
      let rest : ns ≡ [] = none_of ns (ap tail_of is) in
      record { alloc = n.1; block = block_of n; shows = ap (λ c. (head_of (p, e) c).1) is; is = λ i. (at i, n.1, block_of n) ∷ rest i }

  pub element_same : (one : List (Held X)) (p : Ptr) (e o : Element X) → nodes_of one ≡ (p, e) ∷ [] → nodes_of one ≡ (p, o) ∷ [] → e ≡ o
  element_same one p e o x y = ap (λ c. (head_of (p, e) c).1) (sym x ∙ y)

  pub alone_there : (one : List (Held X)) (p : Ptr) (e : Element X) → nodes_of one ≡ (p, e) ∷ [] → slice_get (box_addresses one) 0 ≡ Some p
  alone_there one p e is = let u = alone_of one p e is in ap (λ ls. slice_get (box_addresses ls) 0) u.is

  pub alone_block : (one : List (Held X)) (p : Ptr) (e : Element X) (b : Block X) → nodes_of one ≡ (p, e) ∷ [] → slice_get (box_values one) 0 ≡ Some b → block_element b ≡ e
  alone_block one p e b is at =
      let u = alone_of one p e is in
      let same : Some u.block ≡ Some b = sym (ap (λ ls. slice_get (box_values ls) 0) u.is) ∙ at in
      let block : u.block ≡ b = cc in
      ap block_element (sym block) ∙ u.shows

  pub alone_value : (one : List (Held X)) (p : Ptr) (e : Element X) (b : Block X) → nodes_of one ≡ (p, e) ∷ [] → slice_get (box_values one) 0 ≡ Some b → b.value ≡ e.value
  alone_value one p e b is at = ap (λ (x : Element X). x.value) (alone_block one p e b is at)

  pub alone_changed : (one : List (Held X)) (p : Ptr) (e : Element X) (b : Block X) (w : X) → nodes_of one ≡ (p, e) ∷ [] → slice_get (box_values one) 0 ≡ Some b → nodes_of (set_value one 0 (record b { value = w })) ≡ (p, record { id = e.id; value = w }) ∷ []
  alone_changed one p e b w is at =
      let u = alone_of one p e is in
      ap (λ ls. nodes_of (set_value ls 0 (record b { value = w }))) u.is ∙ ap (λ (x : Element X). (p, record { id = x.id; value = w }) ∷ []) (alone_block one p e b is at)
