-- What a stable list holds after an element was replaced.
use Rattle.std.specs.Prelude.{◌≡◌, ◌∷◌, ◌++◌}
use denote.RawPtr.{Ptr}
use Rattle.cordyceps_base.specs.Element.{Element}
use Rattle.cordyceps_base.specs.Nodes.{Nodes}

module _ {X : Type 0} where
  -- the node o at p was taken out of c, and the node e was put in where it was, and is at q
  abbrev pub IsReplaced : Nodes X → Ptr → Element X → Ptr → Element X → Nodes X → Type 0
  IsReplaced c p o q e d =
      (before : Nodes X) × (after : Nodes X) × (c ≡ before ++ (p, o) ∷ after) × (d ≡ before ++ (q, e) ∷ after)
