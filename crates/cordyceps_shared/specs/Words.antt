-- The words of a table that threads share.
use Rattle.std.specs.Prelude.{ℕ, ◌+◌, List, slice_index}
use Rattle.cordyceps_shared.specs.declared.layout.TheConstants.{POOL, HEAD, RIGHT, LINKS}

abbrev pub pool : List ℕ → ℕ
pool words = slice_index words POOL

abbrev pub head : List ℕ → ℕ
head words = slice_index words HEAD

abbrev pub right : List ℕ → ℕ
right words = slice_index words RIGHT

-- the link of room r
abbrev pub next : List ℕ → ℕ → ℕ
next words r = slice_index words (LINKS + r)
