-- The items of a list by their places.
use Rattle.std.specs.Prelude.{◌≡◌, ℕ, zero, suc, List, [], ◌∷◌}

-- the item at place i is x
abbrev pub ItemAt : {A : Type 0} → List A → ℕ → A → Type 0
ItemAt [] i x = ⊥
ItemAt (y ∷ ys) zero x = x ≡ y
ItemAt (y ∷ ys) (suc i) x = ItemAt ys i x
