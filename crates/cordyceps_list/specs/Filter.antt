-- The removal of the first element that passes.
use Rattle.std.specs.Prelude.{◌≡◌, ℕ, ◌+◌, ◌-◌, ◌≤◌, Bool, Option, ◌++◌, take, drop, slice_get, option_map}
use Rattle.cordyceps_base.specs.Element.{Element, Elements, values}
use Rattle.cordyceps_list.specs.Walks.{Walks}

module _ {X H F : Type 0} (element : H → Element X) (R : F → X → Bool → F → Type 0) where
  -- the predicate, as f, was asked of s from place k on up to the first `true`, and is now g; r is that element, t the
  -- others, and j the place of its follower
  pub record RemovesFirst (s : Elements X) (k : ℕ) (f : F) (r : Option H) (t : Elements X) (j : ℕ)
      (g : F) : Type 0 where
    pub walks : Walks R f (drop k (values s)) (j - k) g
    pub from : k ≤ j
    pub answer : option_map element r ≡ slice_get s j
    pub kept : t ≡ take j s ++ drop (j + 1) s
