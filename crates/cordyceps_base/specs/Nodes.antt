-- What a clause sees of the nodes of a chain, whatever their links.
use Rattle.std.specs.Prelude.{◌≡◌, ℕ, zero, suc, List, [], ◌∷◌, map, slice_get, Some}
use denote.RawPtr.{Ptr}
use Rattle.cordyceps_base.specs.declared.boxes.homes.Home.{Home}
use Rattle.cordyceps_base.specs.declared.boxes.Address.{Address}
use Rattle.cordyceps_base.specs.declared.node.Block.{Block}
use Rattle.cordyceps_base.specs.Boxes.{box_value}
use Rattle.cordyceps_base.specs.Element.{Element, Elements}

-- nodes in order, each as the address where it is and its element
abbrev pub Nodes : Type 0 → Type 0
Nodes X = List (Ptr × Element X)

module _ {X : Type 0} where
  -- where the nodes are
  abbrev pub spots : Nodes X → List Ptr
  spots = map (λ n. n.0)

  -- node k is at p
  abbrev pub IsAt : Nodes X → ℕ → Address → Type 0
  IsAt c k p = slice_get (spots c) k ≡ Some p.ptr

  -- their elements
  abbrev pub elements : Nodes X → Elements X
  elements = map (λ n. n.1)

  -- where the nodes are, each with its value
  abbrev pub entries : Nodes X → List (Ptr × X)
  entries = map (λ n. (n.0, n.1.value))

  -- the same nodes with w as the k-th value
  abbrev pub with_item : Nodes X → ℕ → X → Nodes X
  with_item [] k w = []
  with_item (n ∷ ns) zero w = (n.0, record { id = n.1.id; value = w }) ∷ ns
  with_item (n ∷ ns) (suc k) w = n ∷ with_item ns k w

-- a node, as a chain owns it: its address, the handle that frees it and its block
abbrev pub OwnedNode : Type 0 → Type 0
OwnedNode X = Ptr × Home × Block X

module _ {X : Type 0} where
  -- the block of a node
  abbrev pub block_of : OwnedNode X → Block X
  block_of n = box_value n

  -- the element in a block
  abbrev pub block_element : Block X → Element X
  block_element b = record { id = b.id; value = b.value }

  abbrev pub nodes_of : List (OwnedNode X) → Nodes X
  nodes_of = map (λ n. (n.0, block_element (block_of n)))
