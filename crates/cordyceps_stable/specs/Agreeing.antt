-- How a map from numbers to spots and a stable list agree.
use Rattle.std.specs.Prelude.{◌≡◌, ℕ, ◌∷◌, ◌++◌, Option, Some, nat_eq}
use Rattle.std.specs.Map.{update}
use denote.RawPtr.{Ptr}
use Rattle.cordyceps_base.specs.Element.{Element}
use Rattle.cordyceps_base.specs.Nodes.{Nodes, spots}
use Rattle.cordyceps_base.specs.Spots.{AreDistinct}

-- g is f, with w at the number k
abbrev pub IsUpdated : (ℕ → Option Ptr) → ℕ → Option Ptr → (ℕ → Option Ptr) → Type 0
IsUpdated f k w g = (q : ℕ) → g q ≡ update nat_eq f k w q

module _ {X : Type 0} where
  -- the element e is at q
  abbrev pub HasElementAt : Nodes X → Ptr → Element X → Type 0
  HasElementAt c q e = (before : Nodes X) × (after : Nodes X) × (c ≡ before ++ (q, e) ∷ after)

  -- f finds the spot of each number's element in the list, and no other
  pub record Agrees (f : ℕ → Option Ptr) (c : Nodes X) : Type 0 where
    pub mapped : (k : ℕ) (p : Ptr) → f k ≡ Some p → (e : Element X) × (e.id ≡ k) × HasElementAt c p e
    pub listed : (q : Ptr) (e : Element X) → HasElementAt c q e → f e.id ≡ Some q
    pub distinct : AreDistinct (spots c)
