-- Maps from keys to nodes, in order of the keys.
use Rattle.std.specs.Prelude.{◌≡◌, Bool, true, false, if◌then◌else◌, List, [], ◌∷◌, ◌++◌, Option, None, MatchOption, filter}
use Rattle.std.specs.List.{AllByRecursion}
use Rattle.std.specs.Map.{lookup}
use Rattle.std.specs.Ordering.{is_lt, is_eq}
use Rattle.std.specs.declared.cmp.Ordering.{Ordering}
use Rattle.std.specs.declared.cmp.Ordering.TheVariants.{Less}
use denote.RawPtr.{Ptr}
use Rattle.cordyceps_base.specs.BySpot.{IsTaken}
use Rattle.cordyceps_base.specs.Element.{Element, values}
use Rattle.cordyceps_base.specs.Nodes.{Nodes, elements}

-- whether a key is equal to k
abbrev pub is_key : {K : Type 0} → (K → K → Ordering) → K → K → Bool
is_key cmp k x = is_eq (cmp k x)

module _ {K V : Type 0} where
  -- the keys with their values, in order
  abbrev pub pairs : Nodes (K × V) → List (K × V)
  pairs c = values (elements c)

  abbrev pub key_of : Ptr × Element (K × V) → K
  key_of n = n.1.value.0

  -- the nodes with w as the value of the first one whose key passes
  abbrev pub with_value_of : (K → Bool) → Nodes (K × V) → V → Nodes (K × V)
  with_value_of passes [] w = []
  with_value_of passes (n ∷ c) w =
      if passes (key_of n) then (n.0, record { id = n.1.id; value = (n.1.value.0, w) }) ∷ c
      else n ∷ with_value_of passes c w

  module _ (cmp : K → K → Ordering) where
    -- the value of the key k
    abbrev pub value_of : K → Nodes (K × V) → Option V
    value_of k c = lookup (is_key cmp k) (pairs c)

    -- each key is less than those of all nodes after it
    abbrev pub Rises : Nodes (K × V) → Type 0
    Rises [] = Unit {0}
    Rises (n ∷ c) = AllByRecursion (λ m. cmp (key_of n) (key_of m) ≡ Less) c × Rises c

    -- the node of the key k is at p
    pub record IsFound (c : Nodes (K × V)) (k : K) (p : Ptr) : Type 0 where
      pub front : Nodes (K × V)
      pub element : Element (K × V)
      pub back : Nodes (K × V)
      pub parts : c ≡ front ++ (p, element) ∷ back
      pub equal : is_key cmp k element.value.0 ≡ true

    -- the node e of the key k was taken out of c, and d is left
    pub record IsRemoved (c : Nodes (K × V)) (k : K) (e : Element (K × V)) (d : Nodes (K × V)) : Type 0 where
      pub spot : Ptr
      pub found : IsFound c k spot
      pub taken : IsTaken c spot e d

    -- the node e came to p in d, in the place of the one that had its key in c, if there was one; where each key is less
    -- than those after it, no other place is left to it
    pub record IsInserted (c : Nodes (K × V)) (e : Element (K × V)) (p : Ptr) (old : Option (Element (K × V)))
        (d : Nodes (K × V)) : Type 0 where
      pub rest : Nodes (K × V)
      pub replaced : MatchOption old ((value_of e.value.0 c ≡ None) × (rest ≡ c))
          (λ o. IsRemoved c e.value.0 o rest)
      pub added : IsTaken d p e rest
      pub rises : Rises d

    -- the spots with their keys and values, up to the first whose key is not less than one
    abbrev pub until : K → List (Ptr × (K × V)) → List (Ptr × (K × V))
    until high [] = []
    until high (x ∷ s) = if is_lt (cmp x.1.0 high) then x ∷ until high s else []

    -- the nodes whose keys are not less than one key and less than another
    abbrev pub between : K → K → Nodes (K × V) → Nodes (K × V)
    between low high c = filter (λ n. if is_lt (cmp (key_of n) low) then false else is_lt (cmp (key_of n) high)) c
