-- The free rooms of a party, which are linked.
use Rattle.std.specs.Prelude.{◌≡◌, ◌⊎◌, ℕ, suc, List, [], ◌∷◌, ◌++◌, length, take, drop}
use Rattle.cordyceps_shared.specs.Words.{next}
use Rattle.cordyceps_shared.specs.declared.free.FreeRooms.{FreeRooms}

-- free rooms in the order in which they are used, whose links lead from each to the next; and the last one's link
pub record FreeChain : Type 0 where
  pub rooms : List ℕ
  pub end : ℕ

-- the word that leads to the first of these rooms, and to what is after them if there is none
abbrev pub leads : List ℕ → ℕ → ℕ
leads [] end = end
leads (r ∷ rs) end = suc r

abbrev pub with_first : ℕ → FreeChain → FreeChain
with_first r chain = record { rooms = r ∷ chain.rooms; end = chain.end }

abbrev pub with_last : ℕ → ℕ → FreeChain → FreeChain
with_last r end chain = record { rooms = chain.rooms ++ r ∷ []; end = end }

-- there is no free room, or the last one's link is this word
abbrev pub IsTied : FreeChain → ℕ → Type 0
IsTied chain at = (chain.rooms ≡ []) ⊎ (chain.end ≡ at)

-- the links lead from each of these rooms to the next, and the last one's is this word
abbrev pub Links : List ℕ → List ℕ → ℕ → Type 0
Links words [] end = Unit {0}
Links words (r ∷ rs) end = (next words r ≡ leads rs end) × Links words rs end

-- the free rooms without the first n, these n, and those of two chains, of which the first leads to the second
abbrev pub rest_rooms : ℕ → FreeChain → FreeChain
rest_rooms n free = record { rooms = drop n free.rooms; end = free.end }

abbrev pub first_rooms : ℕ → FreeChain → FreeChain
first_rooms n free = record { rooms = take n free.rooms; end = leads (drop n free.rooms) free.end }

abbrev pub end_after : ℕ → List ℕ → ℕ → ℕ
end_after end [] other = end
end_after end (r ∷ rs) other = other

abbrev pub joined : FreeChain → FreeChain → FreeChain
joined free other = record { rooms = free.rooms ++ other.rooms; end = end_after free.end other.rooms other.end }

-- they may be joined
abbrev pub MayJoin : FreeChain → FreeChain → Type 0
MayJoin free other = (free.rooms ≡ []) ⊎ ((other.rooms ≡ []) ⊎ (free.end ≡ leads other.rooms other.end))

-- what a party has of its free rooms: their number, and the first and the last if there is one
pub record Tracks (free : FreeRooms) (chain : FreeChain) : Type 0 where
  pub count : free.count ≡ length chain.rooms
  pub first : (r : ℕ) (rs : List ℕ) → chain.rooms ≡ r ∷ rs → free.first ≡ suc r
  pub last : (before : List ℕ) (r : ℕ) → chain.rooms ≡ before ++ r ∷ [] → free.last ≡ r
