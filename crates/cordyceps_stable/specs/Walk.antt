-- Walks from spot to spot.
use Rattle.std.specs.Prelude.{◌≡◌, ℕ, ◌-◌, [], length, Option, Some, None, MatchOption}
use denote.RawPtr.{Ptr}
use Rattle.cordyceps_base.specs.BySpot.{IsFirst, IsLast, AreNext}
use Rattle.cordyceps_base.specs.Nodes.{Nodes, spots}
use Rattle.cordyceps_base.specs.Spots.{index_of}

-- what a contract sees of a cursor by spots: the nodes, and the spot that it is at; none at the null place
pub record Place (X : Type 0) : Type 0 where
  pub nodes : Nodes X
  pub spot : Option Ptr

module _ {X : Type 0} where
  -- the place r is the next after o; the null place comes after the last node, and before the first
  abbrev pub IsOn : Nodes X → Option Ptr → Option Ptr → Type 0
  IsOn c None r = MatchOption r (c ≡ []) (λ q. IsFirst c q)
  IsOn c (Some p) r = MatchOption r (IsLast c p) (λ q. AreNext c p q)

  -- the place r is the one before o
  abbrev pub IsBack : Nodes X → Option Ptr → Option Ptr → Type 0
  IsBack c None r = MatchOption r (c ≡ []) (λ q. IsLast c q)
  IsBack c (Some p) r = MatchOption r (IsFirst c p) (λ q. AreNext c q p)

  -- how many nodes there are from a place on, which a loop that goes on makes fewer: none at the null place
  abbrev pub nodes_from : Nodes X → Option Ptr → ℕ
  nodes_from c None = 0
  nodes_from c (Some p) = length c - index_of p (spots c)
