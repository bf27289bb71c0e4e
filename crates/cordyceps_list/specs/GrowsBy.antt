-- Lists that grow by the items of an iterator.
use Rattle.std.specs.Prelude.{◌≡◌, ◌≤◌, ℕ, Option, List, ◌++◌, length, map}
use Rattle.std.specs.Iterator.{Count, Drains, HoldsAlong, IsFinite}
use Rattle.cordyceps_base.specs.Element.{Element, Elements}

module _ {U S H : Type 0} (becomes : U → S → Type 0) (steps : S → Option H → S → Type 0) where
  -- the iterator that the items become ends, and gives at most n items
  abbrev pub EndsWithin : (S → Type 0) → (S → Count) → ℕ → U → Type 0
  EndsWithin can left n items =
      (it : S) → becomes items it → can it × IsFinite (left it) × HoldsAlong steps it (λ taken. length taken ≤ n)

  -- what comes of the items went after old, in order
  abbrev pub GrowsBy : {X : Type 0} → (H → Element X) → Elements X → U → Elements X → Type 0
  GrowsBy element old items new =
      (it : S) × (taken : List H) × becomes items it × Drains steps it taken × (new ≡ old ++ map element taken)
