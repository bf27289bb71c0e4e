-- The order in which the rooms of a new transfer stack are free.
use Rattle.std.specs.Prelude.{ℕ, zero, suc, ◌+◌, ◌*◌, ◌/◌, ◌%◌, Bool, cond, nat_le, List, map}
use Rattle.cordyceps_shared.specs.Counts.{below}

-- a stack has the whole block of n rows and n columns that this room is in
abbrev pub has_block : ℕ → ℕ → ℕ → Bool
has_block rooms n r = nat_le (r / (n * n) * (n * n) + n * n) rooms

-- the room whose row in the block is this one's column, and whose column is its row
abbrev pub across : ℕ → ℕ → ℕ
across n r = r / (n * n) * (n * n) + r % (n * n) % n * n + r % (n * n) / n

-- of a stack of at most 262,144 rooms, the room across the largest whole block of 32, 16 or 8 rows, if there is one
abbrev pub turned : Bool → Bool → Bool → Bool → ℕ → ℕ
turned few large middle small r = cond few (cond large (across 32 r) (cond middle (across 16 r) (cond small (across 8 r) r))) r

-- the room at this place of the order; also the place of this room
abbrev pub crosswise : ℕ → ℕ → ℕ
crosswise rooms r = turned (nat_le rooms 262144) (has_block rooms 32 r) (has_block rooms 16 r) (has_block rooms 8 r) r

-- all rooms, from the last place on
abbrev pub in_order : ℕ → List ℕ
in_order rooms = map (crosswise rooms) (below rooms)

-- the word that leads to the room at the place before this one
abbrev pub leads_before : ℕ → ℕ → ℕ
leads_before rooms zero = 0
leads_before rooms (suc i) = suc (crosswise rooms i)
