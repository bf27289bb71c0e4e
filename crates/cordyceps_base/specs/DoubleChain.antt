-- How the nodes of a double chain point to one another.
use Rattle.std.specs.Prelude.{◌≡◌, ℕ, List, [], ◌∷◌, length}
use denote.RawPtr.{Ptr, null_ptr}
use Rattle.cordyceps_base.specs.declared.node.Block.{Block}
use Rattle.cordyceps_base.specs.Boxes.{box_addresses}
use Rattle.cordyceps_base.specs.Nodes.{OwnedNode, block_of}
use Rattle.cordyceps_base.specs.Spots.{AreNullComparable}

module _ {X : Type 0} where
  abbrev pub next_of : Block X → Ptr
  next_of b = b.links.next.ptr

  abbrev pub prev_of : Block X → Ptr
  prev_of b = b.links.prev.ptr

  -- h leads to the node, which leads back to p
  abbrev pub Follows : Ptr → Ptr → OwnedNode X → Type 0
  Follows p h n = (h ≡ n.0) × (prev_of (block_of n) ≡ p)

  -- the nodes are linked both ways: h leads to the first and t to the last, the first `prev` is p and the last `next` q
  abbrev pub Segment : Ptr → Ptr → List (OwnedNode X) → Ptr → Ptr → Type 0
  Segment p h [] t q = (h ≡ q) × (t ≡ p)
  Segment p h (n ∷ ns) t q = Follows p h n × Segment n.0 (next_of (block_of n)) ns t q

  -- the nodes are linked both ways from head to tail, both ends lead to nothing, and each address may be compared with
  -- null
  pub record IsLinked (head tail : Ptr) (len : ℕ) (ns : List (OwnedNode X)) : Type 0 where
    pub long : len ≡ length ns
    pub comparable : AreNullComparable (box_addresses ns)
    pub segment : Segment null_ptr head ns tail null_ptr
