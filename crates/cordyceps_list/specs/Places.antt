-- The places of a cursor.
use Rattle.std.specs.Prelude.{◌+◌, ◌%◌, ℕ, Option, Some, None, nat_lt, if◌then◌else◌}

-- the places after and before a place among n elements, where n is the null place
abbrev pub next_place : ℕ → ℕ → ℕ
next_place n k = (k + 1) % (n + 1)

abbrev pub prev_place : ℕ → ℕ → ℕ
prev_place n k = (k + n) % (n + 1)

-- a place as an index, which the null place has not
abbrev pub index_at : ℕ → ℕ → Option ℕ
index_at n k = if nat_lt k n then Some k else None
