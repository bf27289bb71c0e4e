-- Two lists as one.
use Rattle.std.specs.Prelude.{◌≡◌, List, [], ◌∷◌, ◌⊎◌}

-- the third list has the items of the other two, and those of each in its order
abbrev pub Interleaves : {A : Type 0} → List A → List A → List A → Type 0
Interleaves xs ys [] = (xs ≡ []) × (ys ≡ [])
Interleaves xs ys (z ∷ zs) =
    ((rest : List _) × (xs ≡ z ∷ rest) × Interleaves rest ys zs)
    ⊎ ((rest : List _) × (ys ≡ z ∷ rest) × Interleaves xs rest zs)
