-- A map from numbers to spots that finds elements of a heap.
use Rattle.std.specs.Prelude.{◌≡◌, ℕ, Option, Some}
use denote.RawPtr.{Ptr}
use Rattle.cordyceps_base.specs.Element.{Element}
use Rattle.cordyceps_base.specs.Nodes.{Nodes}
use Rattle.cordyceps_stable.specs.Agreeing.{HasElementAt}

-- what f finds for a number is the spot of an element with that number
abbrev pub Finds : {X : Type 0} → (ℕ → Option Ptr) → Nodes X → Type 0
Finds {X = X} f c = (k : ℕ) (p : Ptr) → f k ≡ Some p → (e : Element X) × (e.id ≡ k) × HasElementAt c p e
