-- What calls that reach a node by its spot say of the nodes of a chain.
use Rattle.std.specs.Prelude.{◌≡◌, ℕ, [], ◌∷◌, ◌++◌, slice_get, Some}
use denote.RawPtr.{Ptr}
use Rattle.cordyceps_base.specs.Element.{Element}
use Rattle.cordyceps_base.specs.Nodes.{Nodes, spots}

module _ {X : Type 0} where
  -- a node is at p
  abbrev pub HasSpot : Nodes X → Ptr → Type 0
  HasSpot c p = (k : ℕ) × (slice_get (spots c) k ≡ Some p)

  -- the value w is at p
  abbrev pub HoldsAt : Nodes X → Ptr → X → Type 0
  HoldsAt c p w =
      (before : Nodes X) × (id : ℕ) × (after : Nodes X) × (c ≡ before ++ (p, record { id = id; value = w }) ∷ after)

  -- the node e at p was taken out of c, and d is left
  abbrev pub IsTaken : Nodes X → Ptr → Element X → Nodes X → Type 0
  IsTaken c p e d = (before : Nodes X) × (after : Nodes X) × (c ≡ before ++ (p, e) ∷ after) × (d ≡ before ++ after)

  -- the node e was put in before that at p, and is at q
  abbrev pub IsPutBefore : Nodes X → Ptr → Ptr → Element X → Nodes X → Type 0
  IsPutBefore c p q e d =
      (before : Nodes X) × (o : Element X) × (after : Nodes X) × (c ≡ before ++ (p, o) ∷ after)
      × (d ≡ before ++ (q, e) ∷ (p, o) ∷ after)

  -- the node e was put in after that at p, and is at q
  abbrev pub IsPutAfter : Nodes X → Ptr → Ptr → Element X → Nodes X → Type 0
  IsPutAfter c p q e d =
      (before : Nodes X) × (o : Element X) × (after : Nodes X) × (c ≡ before ++ (p, o) ∷ after)
      × (d ≡ before ++ (p, o) ∷ (q, e) ∷ after)

  -- the node at p comes first, and keeps its spot; the others keep their order
  abbrev pub IsMovedFront : Nodes X → Ptr → Nodes X → Type 0
  IsMovedFront c p d = (e : Element X) × (rest : Nodes X) × IsTaken c p e rest × (d ≡ (p, e) ∷ rest)

  -- the node at p comes last, and keeps its spot; the others keep their order
  abbrev pub IsMovedBack : Nodes X → Ptr → Nodes X → Type 0
  IsMovedBack c p d = (e : Element X) × (rest : Nodes X) × IsTaken c p e rest × (d ≡ rest ++ (p, e) ∷ [])

  -- the node at p comes right after that at q, and keeps its spot; the others keep their order
  abbrev pub IsMovedAfter : Nodes X → Ptr → Ptr → Nodes X → Type 0
  IsMovedAfter c p q d = (e : Element X) × (rest : Nodes X) × IsTaken c p e rest × IsPutAfter rest q p e d

  -- the first node is at p
  abbrev pub IsFirst : Nodes X → Ptr → Type 0
  IsFirst c p = (e : Element X) × (after : Nodes X) × (c ≡ (p, e) ∷ after)

  -- the last node is at p
  abbrev pub IsLast : Nodes X → Ptr → Type 0
  IsLast c p = (before : Nodes X) × (e : Element X) × (c ≡ before ++ (p, e) ∷ [])

  -- the node at q is the next after that at p
  abbrev pub AreNext : Nodes X → Ptr → Ptr → Type 0
  AreNext c p q =
      (before : Nodes X) × (e : Element X) × (o : Element X) × (after : Nodes X)
      × (c ≡ before ++ (p, e) ∷ (q, o) ∷ after)
