-- Nodes in the order of a number, equals as they came.
use Rattle.std.specs.Prelude.{ℕ, ◌≤◌, [], ◌∷◌, nat_lt, if◌then◌else◌}
use Rattle.std.specs.List.{AllByRecursion}
use denote.RawPtr.{Ptr}
use Rattle.cordyceps_base.specs.Element.{Element}
use Rattle.cordyceps_base.specs.Nodes.{Nodes}

module _ {X : Type 0} (number : X → ℕ) where
  abbrev pub InOrder : Nodes X → Type 0
  InOrder [] = Unit {0}
  InOrder (x ∷ s) = AllByRecursion (λ y. number x.1.value ≤ number y.1.value) s × InOrder s

  -- one more, which is at q, after all of no greater number
  abbrev pub placed : Ptr → Element X → Nodes X → Nodes X
  placed q e [] = (q, e) ∷ []
  placed q e (x ∷ s) = if nat_lt (number e.value) (number x.1.value) then (q, e) ∷ x ∷ s else x ∷ placed q e s

  -- more, one after the other
  abbrev pub placed_all : Nodes X → Nodes X → Nodes X
  placed_all s [] = s
  placed_all s (n ∷ more) = placed_all (placed n.0 n.1 s) more

  -- the nodes in order
  abbrev pub arranged : Nodes X → Nodes X
  arranged c = placed_all [] c
