-- What a store to one word leaves of the others.
use Rattle.std.proofs.Common.{◌≡◌, ◌≢◌, ℕ, ◌+◌, ◌<◌, List, length, set, arith, get_or-set_other, get_or-set_same}
use Rattle.cordyceps_shared.specs.Words.{pool, head, right, next}
use Rattle.cordyceps_shared.specs.declared.layout.TheConstants.{POOL, HEAD, RIGHT, LINKS}

-- ---- a store to the pool
pub pool_set : (words : List ℕ) (n : ℕ) → POOL < length words → pool (set words POOL n) ≡ n
pool_set words n inside = get_or-set_same words POOL n 0 inside

pub head_beside_pool : (words : List ℕ) (n : ℕ) → head (set words POOL n) ≡ head words
head_beside_pool words n = get_or-set_other words POOL HEAD n 0 (λ e. omega arith)

pub right_beside_pool : (words : List ℕ) (n : ℕ) → right (set words POOL n) ≡ right words
right_beside_pool words n = get_or-set_other words POOL RIGHT n 0 (λ e. omega arith)

-- ---- a store to the head
pub pool_beside_head : (words : List ℕ) (n : ℕ) → pool (set words HEAD n) ≡ pool words
pool_beside_head words n = get_or-set_other words HEAD POOL n 0 (λ e. omega arith)

pub head_set : (words : List ℕ) (n : ℕ) → HEAD < length words → head (set words HEAD n) ≡ n
head_set words n inside = get_or-set_same words HEAD n 0 inside

pub right_beside_head : (words : List ℕ) (n : ℕ) → right (set words HEAD n) ≡ right words
right_beside_head words n = get_or-set_other words HEAD RIGHT n 0 (λ e. omega arith)

-- ---- a store to the right
pub right_set : (words : List ℕ) (n : ℕ) → RIGHT < length words → right (set words RIGHT n) ≡ n
right_set words n inside = get_or-set_same words RIGHT n 0 inside

pub pool_beside_right : (words : List ℕ) (n : ℕ) → pool (set words RIGHT n) ≡ pool words
pool_beside_right words n = get_or-set_other words RIGHT POOL n 0 (λ e. omega arith)

pub head_beside_right : (words : List ℕ) (n : ℕ) → head (set words RIGHT n) ≡ head words
head_beside_right words n = get_or-set_other words RIGHT HEAD n 0 (λ e. omega arith)

-- ---- a store to a link
pub next_set : (words : List ℕ) (r n : ℕ) → LINKS + r < length words → next (set words (LINKS + r) n) r ≡ n
next_set words r n inside = get_or-set_same words (LINKS + r) n 0 inside

pub next_beside_next : (words : List ℕ) (r s n : ℕ) → s ≢ r → next (set words (LINKS + r) n) s ≡ next words s
next_beside_next words r s n other = get_or-set_other words (LINKS + r) (LINKS + s) n 0 (λ e. other (omega arith))

pub pool_beside_next : (words : List ℕ) (r n : ℕ) → pool (set words (LINKS + r) n) ≡ pool words
pool_beside_next words r n = get_or-set_other words (LINKS + r) POOL n 0 (λ e. omega arith)

pub head_beside_next : (words : List ℕ) (r n : ℕ) → head (set words (LINKS + r) n) ≡ head words
head_beside_next words r n = get_or-set_other words (LINKS + r) HEAD n 0 (λ e. omega arith)

pub right_beside_next : (words : List ℕ) (r n : ℕ) → right (set words (LINKS + r) n) ≡ right words
right_beside_next words r n = get_or-set_other words (LINKS + r) RIGHT n 0 (λ e. omega arith)
