-- How high a balanced tree is.
use Rattle.std.specs.Prelude.{ℕ, zero, suc, ◌+◌, ◌*◌, ◌^◌, ◌≤◌}

-- the least number of nodes of a balanced tree of a height
abbrev pub least : ℕ → ℕ
least zero = 0
least (suc zero) = 1
least (suc (suc n)) = suc (least n + least (suc n))

-- h is at most 1.44 log2(n + 2), which is 36/25 of the logarithm
abbrev pub IsAtMostLog : ℕ → ℕ → Type 0
IsAtMostLog h n = 2 ^ (25 * h) ≤ (n + 2) ^ 36
