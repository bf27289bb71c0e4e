-- Lines of a table: how their nodes point to one another, where each begins, and what is left without one node.
use Rattle.std.specs.Prelude.{◌≡◌, ◌≤◌, ◌⊎◌, Bool, true, false, ℕ, zero, suc, List, [], ◌∷◌, ◌++◌, length, take, drop}
use denote.RawPtr.{Ptr, block_ptr, null_ptr, Testable, InBlock}
use Rattle.cordyceps_base.specs.declared.boxes.Address.{Address}
use Rattle.cordyceps_base.specs.declared.double_lines.TheConstants.{MAX_LINES}
use Rattle.cordyceps_base.specs.Boxes.{box_addresses}
use Rattle.cordyceps_base.specs.DoubleChain.{Segment, Follows, prev_of}
use Rattle.cordyceps_base.specs.Element.{Element}
use Rattle.cordyceps_base.specs.Nodes.{Nodes, OwnedNode, block_of, spots}
use Rattle.cordyceps_base.specs.Spots.{index_of, AreDistinct, IsNullComparable, AreNullComparable}

-- the items of all lists, in order
abbrev pub flat : {A : Type 0} → List (List A) → List A
flat [] = []
flat (l ∷ ls) = l ++ flat ls

-- where the first line with a node begins among all nodes, and their number where there is none
abbrev pub begins : List Address → List Ptr → ℕ
begins [] ps = length ps
begins (h ∷ hs) ps = elim h.ptr [ block_ptr b o ↦ index_of (block_ptr b o) ps | null_ptr ↦ begins hs ps ]

module _ {X : Type 0} where
  -- all nodes, cut where the lines begin
  abbrev pub lines_in : List Address → Nodes X → List (Nodes X)
  lines_in [] c = []
  lines_in (h ∷ hs) c =
      elim h.ptr [
        | block_ptr b o ↦ take (begins hs (spots c)) c ∷ lines_in hs (drop (begins hs (spots c)) c)
        | null_ptr ↦ [] ∷ lines_in hs c
      ]

  -- h leads to the first node, and the last leads to nothing; where the first leads back to is not said
  pub record IsDoubleLine (h : Ptr) (ns : List (OwnedNode X)) : Type 0 where
    pub comparable : AreNullComparable (box_addresses ns)
    pub prev : Ptr
    pub last : Ptr
    pub linked : Segment prev h ns last null_ptr

  -- h leads to the first node, which leads back to nothing, and the last is at t; where that leads to is not said
  pub record IsGrowing (h t : Ptr) (ns : List (OwnedNode X)) : Type 0 where
    pub comparable : AreNullComparable (box_addresses ns)
    pub next : Ptr
    pub linked : Segment null_ptr h ns t next

  -- each address leads to the first node of a line
  abbrev pub Lead : List Address → List (List (OwnedNode X)) → Type 0
  Lead [] [] = Unit {0}
  Lead [] (l ∷ ls) = ⊥
  Lead (h ∷ hs) [] = ⊥
  Lead (h ∷ hs) (l ∷ ls) = ((t : Ptr) × Segment null_ptr h.ptr l t null_ptr) × Lead hs ls

  -- the nodes are lines, one after the other, with these first nodes
  pub record AreLines (hs : List Address) (ns : List (OwnedNode X)) : Type 0 where
    pub comparable : AreNullComparable (box_addresses ns)
    pub distinct : AreDistinct (box_addresses ns)
    pub lines : List (List (OwnedNode X))
    pub parts : ns ≡ flat lines
    pub led : Lead hs lines

  -- line k begins with a node whose `prev` is not null, and those before it with one whose `prev` is null, or have none
  abbrev pub IsMarkedAt : List Address → List (List (OwnedNode X)) → ℕ → Type 0
  IsMarkedAt [] ls k = ⊥
  IsMarkedAt (h ∷ hs) [] k = ⊥
  IsMarkedAt (h ∷ hs) ([] ∷ ls) zero = ⊥
  IsMarkedAt (h ∷ hs) ((n ∷ l) ∷ ls) zero = (h.ptr ≡ n.0) × IsNullComparable (prev_of (block_of n))
  IsMarkedAt (h ∷ hs) ([] ∷ ls) (suc k) = (h.ptr ≡ null_ptr) × IsMarkedAt hs ls k
  IsMarkedAt (h ∷ hs) ((n ∷ l) ∷ ls) (suc k) = Follows null_ptr h.ptr n × IsMarkedAt hs ls k

  -- the nodes are such lines, and that at p begins one
  pub record BeginsLine (hs : List Address) (ns : List (OwnedNode X)) (p : Ptr) : Type 0 where
    pub before : List (List (OwnedNode X))
    pub node : OwnedNode X
    pub back : List (OwnedNode X)
    pub after : List (List (OwnedNode X))
    pub parts : ns ≡ flat (before ++ (node ∷ back) ∷ after)
    pub led : Lead hs (before ++ (node ∷ back) ∷ after)
    pub at : node.0 ≡ p

  -- a node of the row is at p
  pub record NodeAt (p : Ptr) (ns : List (OwnedNode X)) : Type 0 where
    pub front : List (OwnedNode X)
    pub node : OwnedNode X
    pub back : List (OwnedNode X)
    pub parts : ns ≡ front ++ node ∷ back
    pub at : node.0 ≡ p

  -- such a node, at h, whose `prev` may be compared with null
  pub record HeadNode (h : Address) (ns : List (OwnedNode X)) : Type 0 where
    pub place : NodeAt h.ptr ns
    pub in_block : InBlock place.node.0
    pub prev_testable : Testable (prev_of (block_of place.node))

  -- h is null, or a node of the row is at h, whose `prev` may be compared with null
  pub record IsHead (h : Address) (ns : List (OwnedNode X)) : Type 0 where
    pub distinct : AreDistinct (box_addresses ns)
    pub testable : Testable h.ptr
    pub node : (h.ptr ≡ null_ptr) ⊎ HeadNode h ns

  -- what tells whether that node is marked
  abbrev pub IsHeadMarked : Bool → Address → List (OwnedNode X) → Type 0
  IsHeadMarked true h ns = (u : NodeAt h.ptr ns) × InBlock (prev_of (block_of u.node))
  IsHeadMarked false h ns =
      (h.ptr ≡ null_ptr) ⊎ ((u : NodeAt h.ptr ns) × (prev_of (block_of u.node) ≡ null_ptr))

  -- the part of an array that is used leads to such lines
  pub record IsTable (xs : List Address) (n : ℕ) (ns : List (OwnedNode X)) : Type 0 where
    pub long : length xs ≡ MAX_LINES
    pub within : n ≤ MAX_LINES
    pub lines : AreLines (take n xs) ns

  -- what a walk over a table has left: the address leads to what is left of a line, which the lines from `line` on
  -- follow
  pub record IsLeft (xs : List Address) (count line : ℕ) (at : Ptr) (ns : List (OwnedNode X)) : Type 0 where
    pub long : length xs ≡ MAX_LINES
    pub passed : line ≤ count
    pub within : count ≤ MAX_LINES
    pub comparable : AreNullComparable (box_addresses ns)
    pub here : List (OwnedNode X)
    pub others : List (List (OwnedNode X))
    pub parts : ns ≡ here ++ flat others
    pub prev : Ptr
    pub last : Ptr
    pub linked : Segment prev at here last null_ptr
    pub led : Lead (drop line (take count xs)) others

  -- the node e at p was taken out of its line
  abbrev pub IsTakenOut : List (Nodes X) → Ptr → Element X → List (Nodes X) → Type 0
  IsTakenOut c p e d =
      (before : List (Nodes X)) × (after : List (Nodes X)) × (front : Nodes X) × (back : Nodes X)
      × (c ≡ before ++ (front ++ (p, e) ∷ back) ∷ after) × (d ≡ before ++ (front ++ back) ∷ after)

  -- the first node e of line k, at p, was taken out
  abbrev pub IsFirstOut : List (Nodes X) → ℕ → Ptr → Element X → List (Nodes X) → Type 0
  IsFirstOut c k p e d =
      (before : List (Nodes X)) × (after : List (Nodes X)) × (back : Nodes X) × (length before ≡ k)
      × (c ≡ before ++ ((p, e) ∷ back) ∷ after) × (d ≡ before ++ back ∷ after)
