-- How the nodes of a single chain point to one another.
use Rattle.std.specs.Prelude.{◌≡◌, List, [], ◌∷◌, ◌++◌, Option, Some, None}
use denote.RawPtr.{Ptr, block_ptr, null_ptr}
use Rattle.cordyceps_base.specs.declared.boxes.Address.{Address}
use Rattle.cordyceps_base.specs.declared.node.Block.{Block}
use Rattle.cordyceps_base.specs.Boxes.{box_addresses}
use Rattle.cordyceps_base.specs.Element.{values}
use Rattle.cordyceps_base.specs.Nodes.{Nodes, OwnedNode, block_of, elements, nodes_of}
use Rattle.cordyceps_base.specs.Spots.{AreNullComparable}

-- an address, unless it is that of nothing
abbrev pub unless_null : Address → Option Address
unless_null a = elim a.ptr [ block_ptr b o ↦ Some (record { ptr = block_ptr b o }) | null_ptr ↦ None ]

-- the nodes before a place in a chain, and those from it on
pub record Parted (X : Type 0) : Type 0 where
  pub before : Nodes X
  pub rest : Nodes X

module _ {X : Type 0} where
  -- the address after, if there is one
  abbrev pub next_of : Block X → Option Address
  next_of b = unless_null b.links.next

  -- the block with another `next`
  abbrev pub with_next : Block X → Address → Block X
  with_next b p = record b { links = record b.links { next = p } }

  -- the nodes with another `next` in the last
  abbrev pub with_next_of_last : List (OwnedNode X) → Address → List (OwnedNode X)
  with_next_of_last [] p = []
  with_next_of_last (n ∷ []) p = (n.0, n.1, with_next (block_of n) p) ∷ []
  with_next_of_last (n ∷ m ∷ ns) p = n ∷ with_next_of_last (m ∷ ns) p

  -- h leads to the first node, each `next` to the node after, and the last `next` is z
  abbrev pub Leads : Option Address → List (OwnedNode X) → Option Address → Type 0
  Leads h [] z = h ≡ z
  Leads h (n ∷ ns) z = (h ≡ Some (record { ptr = n.0 })) × Leads (next_of (block_of n)) ns z

  -- of the address a and those of the nodes after it, t is the last
  abbrev pub EndsAfter : Ptr → List (OwnedNode X) → Ptr → Type 0
  EndsAfter a [] t = t ≡ a
  EndsAfter a (n ∷ ns) t = EndsAfter n.0 ns t

  -- the last node is at t
  abbrev pub EndsAt : List (OwnedNode X) → Ptr → Type 0
  EndsAt [] t = Unit {0}
  EndsAt (n ∷ ns) t = EndsAfter n.0 ns t

  -- the nodes are all that h leads to
  abbrev pub IsLed : Option Address → List (OwnedNode X) → Type 0
  IsLed h ns = Leads h ns None

  -- the same, and each address may be compared with null
  abbrev pub AreLed : Option Address → List (OwnedNode X) → Type 0
  AreLed h ns = IsLed h ns × AreNullComparable (box_addresses ns)

  -- the nodes are linked, from head to tail, and each address may be compared with null
  pub record IsLine (head : Option Address) (tail : Ptr) (ns : List (OwnedNode X)) : Type 0 where
    pub led : IsLed head ns
    pub ends : EndsAt ns tail
    pub comparable : AreNullComparable (box_addresses ns)

  -- the same with no head where there is no node, up to z
  abbrev pub IsFront : Option Address → List (OwnedNode X) → Option Address → Type 0
  IsFront head [] z = head ≡ None
  IsFront head (n ∷ ns) z = Leads head (n ∷ ns) z

  -- the nodes are linked, and at leads to the rest
  pub record IsParted (head : Option Address) (before : Ptr) (at : Option Address) (tail : Ptr)
      (front rest : List (OwnedNode X)) : Type 0 where
    pub front_led : IsFront head front at
    pub front_ends : EndsAt front before
    pub rest_led : IsLed at rest
    pub ends : EndsAt (front ++ rest) tail

  -- the values in the nodes
  abbrev pub values_in : List (OwnedNode X) → List X
  values_in ns = values (elements (nodes_of ns))
