-- Lists that are sent by many, each in its order.
use Rattle.std.specs.Prelude.{◌≡◌, ◌+◌, ℕ, List, [], ◌∷◌, ◌++◌, length}
use Rattle.cordyceps_shared.specs.Acting.{Moves}
use Rattle.cordyceps_shared.specs.Standings.{Standing, keeping, giving}

module _ {A : Type 0} where
  -- how many items the senders have
  abbrev pub how_many : List (List A) → ℕ
  how_many [] = 0
  how_many (xs ∷ lists) = length xs + how_many lists

  -- each item that comes in is the next one of some sender, and in the end none has an item left: so those of each come
  -- in its order, none is lost, and none comes twice
  abbrev pub Delivers : List (List A) → List A → Type 0
  Delivers lists [] = how_many lists ≡ 0
  Delivers lists (x ∷ all) =
      (before : List (List A)) × (left : List A) × (after : List (List A)) × (lists ≡ before ++ (x ∷ left) ∷ after)
      × Delivers (before ++ left ∷ after) all

-- a party as it is after it gave up n rooms, and the one that has them
abbrev pub Splits : {X : Type 0} → ℕ → Standing X → Standing X → Standing X → Type 0
Splits n u kept given = (kept ≡ keeping n u) × (given ≡ giving n u)

-- the party, and those that were split off it, put in these lists, each in its order, and took nothing out
abbrev pub Sends : {X A : Type 0} → (X → List A) → (X → List A) → List (List A) → Standing X → Standing X → Type 0
Sends {X} {A} puts takes lists u w = (all : List A) × Delivers lists all × Moves puts takes all [] u w
