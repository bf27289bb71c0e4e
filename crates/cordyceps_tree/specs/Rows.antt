-- The nodes of a tree, in order.
use Rattle.std.specs.Prelude.{◌≡◌, ℕ, List, [], ◌∷◌, ◌++◌, length, map, if◌then◌else◌}
use denote.RawPtr.{Ptr}
use Rattle.cordyceps_base.specs.declared.boxes.homes.Home.{Home}
use Rattle.cordyceps_base.specs.Boxes.{box_value, box_addresses}
use Rattle.cordyceps_base.specs.Element.{Element}
use Rattle.cordyceps_base.specs.Nodes.{Nodes, spots}
use Rattle.cordyceps_base.specs.Spots.{same_ptr, AreDistinct, AreNullComparable}
use Rattle.cordyceps_tree.specs.declared.block.Block.{Block}
use Rattle.cordyceps_tree.specs.declared.hook.Hook.{Hook}
use Rattle.cordyceps_tree.specs.Trees.{no_hook, first_in, IsSettled}

-- a node as its address, the handle that frees it and its block
abbrev pub Held : Type 0 → Type 0
Held X = Ptr × Home × Block X

module _ {X : Type 0} where
  abbrev pub block_of : Held X → Block X
  block_of n = box_value n

  abbrev pub block_element : Block X → Element X
  block_element b = record { id = b.id; value = b.value }

  -- the nodes, each as its spot and its element
  abbrev pub nodes_of : List (Held X) → Nodes X
  nodes_of = map (λ n. (n.0, block_element (block_of n)))

  -- the hook of the node at p
  abbrev pub hook_at : List (Held X) → Ptr → Hook
  hook_at [] p = no_hook
  hook_at (n ∷ ns) p = if same_ptr p n.0 then (block_of n).hook else hook_at ns p

  -- nothing but hooks changes
  pub record KeepsNodes (ns ms : List (Held X)) : Type 0 where
    pub addresses : box_addresses ms ≡ box_addresses ns
    pub nodes : nodes_of ms ≡ nodes_of ns

  -- the nodes are those of a balanced tree, in order, which root leads to
  pub record IsTree (root : Ptr) (ns : List (Held X)) : Type 0 where
    pub settled : IsSettled (hook_at ns) (box_addresses ns) root
    pub distinct : AreDistinct (box_addresses ns)
    pub comparable : AreNullComparable (box_addresses ns)

  -- a node e came to p, between those at a and those at b; ms is the row then
  pub record IsJoined (ns : List (Held X)) (a b : List Ptr) (p : Ptr) (e : Element X) (ms : List (Held X))
      : Type 0 where
    pub front : List (Held X)
    pub back : List (Held X)
    pub alloc : Home
    pub block : Block X
    pub was : ns ≡ front ++ back
    pub ahead : box_addresses front ≡ a
    pub behind : box_addresses back ≡ b
    pub shows : block_element block ≡ e
    pub row : ms ≡ front ++ (p, alloc, block) ∷ back

  -- a node e came to p, between those at a and those at b
  pub record IsPutAt (c : Nodes X) (a b : List Ptr) (p : Ptr) (e : Element X) (d : Nodes X) : Type 0 where
    pub front : Nodes X
    pub back : Nodes X
    pub was : c ≡ front ++ back
    pub ahead : spots front ≡ a
    pub behind : spots back ≡ b
    pub is : d ≡ front ++ (p, e) ∷ back

  -- such a tree, its first node, and the number of its nodes
  pub record IsWhole (root first : Ptr) (len : ℕ) (ns : List (Held X)) : Type 0 where
    pub tree : IsTree root ns
    pub front : first ≡ first_in (box_addresses ns)
    pub long : len ≡ length ns

  -- ns is ms without the node at p, which is alone in `one`; it was between those at a and those at b
  pub record IsLifted (ns : List (Held X)) (a b : List Ptr) (p : Ptr) (one ms : List (Held X)) : Type 0 where
    pub front : List (Held X)
    pub back : List (Held X)
    pub alloc : Home
    pub block : Block X
    pub was : ns ≡ front ++ back
    pub ahead : box_addresses front ≡ a
    pub behind : box_addresses back ≡ b
    pub row : ms ≡ front ++ (p, alloc, block) ∷ back
    pub alone : one ≡ (p, alloc, block) ∷ []

  -- the nodes `more` took the place of that at p in ns, which is alone in `one`; ms is the row then
  pub record IsTraded (ns : List (Held X)) (a b : List Ptr) (p : Ptr) (one more ms : List (Held X)) : Type 0 where
    pub front : List (Held X)
    pub back : List (Held X)
    pub alloc : Home
    pub block : Block X
    pub was : ns ≡ front ++ (p, alloc, block) ∷ back
    pub ahead : box_addresses front ≡ a
    pub behind : box_addresses back ≡ b
    pub row : ms ≡ front ++ (more ++ back)
    pub alone : one ≡ (p, alloc, block) ∷ []

  -- the node at p left c, and is alone in `one`
  pub record IsGone (c : Nodes X) (p : Ptr) (one : List (Held X)) (d : Nodes X) : Type 0 where
    pub front : Nodes X
    pub back : Nodes X
    pub alloc : Home
    pub block : Block X
    pub was : c ≡ front ++ (p, block_element block) ∷ back
    pub is : d ≡ front ++ back
    pub alone : one ≡ (p, alloc, block) ∷ []

  -- the node e, at q, took the place of that at p in c, which is alone in `one`
  pub record IsSwapped (c : Nodes X) (p : Ptr) (one : List (Held X)) (q : Ptr) (e : Element X) (d : Nodes X)
      : Type 0 where
    pub front : Nodes X
    pub back : Nodes X
    pub alloc : Home
    pub block : Block X
    pub was : c ≡ front ++ (p, block_element block) ∷ back
    pub is : d ≡ front ++ (q, e) ∷ back
    pub alone : one ≡ (p, alloc, block) ∷ []
