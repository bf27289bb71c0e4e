-- The pool of a table that threads share: the free rooms that no party has, which are linked.
use Rattle.std.specs.Prelude.{◌≡◌, ◌⊎◌, ◌<◌, ℕ, ◌+◌, ◌*◌, []}
use Rattle.cordyceps_shared.specs.FreeChains.{FreeChain, Tracks}
use Rattle.cordyceps_shared.specs.declared.free.FreeRooms.{FreeRooms}

-- 1 more than the first room, and the last room, in 21 bits each of one word, and the number of the rooms above them
abbrev pub packed : FreeRooms → ℕ
packed rooms = rooms.first + 2097152 * rooms.last + 4398046511104 * rooms.count

pub record Fits (rooms : FreeRooms) : Type 0 where
  pub first : rooms.first < 2097152
  pub last : rooms.last < 2097152
  pub count : rooms.count < 4194304

-- the word packs what leads to the rooms of this chain, of which there is one at least
pub record Packs (word : ℕ) (chain : FreeChain) : Type 0 where
  pub rooms : FreeRooms
  pub is : word ≡ packed rooms
  pub fits : Fits rooms
  pub tracks : Tracks rooms chain
  pub some_of : 0 < rooms.count

-- the word of the pool leads to this chain: it is 0 where there is no room
abbrev pub LeadsTo : ℕ → FreeChain → Type 0
LeadsTo word chain = ((word ≡ 0) × (chain.rooms ≡ [])) ⊎ Packs word chain
