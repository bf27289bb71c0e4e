-- What is read and written of hooks whose neighbours and marks are apart.
use Rattle.std.proofs.Common.{◌≡◌, ℕ, zero, suc, ◌+◌, ◌<◌, Bool, true, false, List, [], ◌∷◌, length, slice_index_or, refl, sym, ap, ◌∙◌, subst, arith}
use lib.ListN.{set, replicate}
use Rattle.cordyceps_base.specs.declared.boxes.Address.{Address}
use Rattle.cordyceps_many.specs.declared.hook.Hook.{Hook}
use Rattle.cordyceps_many.specs.declared.marked.Links.{Links}
use Rattle.cordyceps_many.specs.Marked.{hook_by, hooks_by, hooks_of}
use Rattle.cordyceps_many.specs.Threads.{nowhere, hook_in, with_next, with_prev, unmarked}

-- what an index past the end reads
abbrev pub no_links : Links
no_links = record { next = nowhere; prev = nowhere }

abbrev links_at : List Links → ℕ → Links
links_at ls i = slice_index_or ls i no_links

abbrev mark_at : List Bool → ℕ → Bool
mark_at ms i = slice_index_or ms i false

-- ---- reads
read : (ls : List Links) (ms : List Bool) (i : ℕ) → i < length (hooks_by ls ms) → hook_in (hooks_by ls ms) i ≡ hook_by (links_at ls i) (mark_at ms i)
read [] ms i l = absurd (omega arith)
read (x ∷ ls) [] i l = absurd (omega arith)
read (x ∷ ls) (m ∷ ms) zero l = refl
read (x ∷ ls) (m ∷ ms) (suc i) l = read ls ms i (omega arith)

pub read_first : (ls : List Links) (ms : List Bool) (i : ℕ) → i < length (hooks_of ls ms) → i ≡ 0 → hook_in (hooks_of ls ms) i ≡ hook_by (links_at ls i) true
read_first ls ms i l z = read ls (true ∷ ms) i l ∙ ap (λ n. hook_by (links_at ls i) (mark_at (true ∷ ms) n)) z

pub read_other : (ls : List Links) (ms : List Bool) (i k : ℕ) → i < length (hooks_of ls ms) → i ≡ suc k → hook_in (hooks_of ls ms) i ≡ hook_by (links_at ls i) (mark_at ms k)
read_other ls ms i k l e = read ls (true ∷ ms) i l ∙ ap (λ n. hook_by (links_at ls i) (mark_at (true ∷ ms) n)) e

-- ---- writes
links_set : (ls : List Links) (ms : List Bool) (i : ℕ) (x : Links) → hooks_by (set ls i x) ms ≡ set (hooks_by ls ms) i (hook_by x (mark_at ms i))
links_set [] ms i x = refl
links_set (y ∷ ls) [] zero x = refl
links_set (y ∷ ls) [] (suc i) x = refl
links_set (y ∷ ls) (m ∷ ms) zero x = refl
links_set (y ∷ ls) (m ∷ ms) (suc i) x = ap (λ hs. hook_by y m ∷ hs) (links_set ls ms i x)

both_set : (ls : List Links) (ms : List Bool) (i : ℕ) (x : Links) (b : Bool) → hooks_by (set ls i x) (set ms i b) ≡ set (hooks_by ls ms) i (hook_by x b)
both_set [] ms i x b = refl
both_set (y ∷ ls) [] zero x b = refl
both_set (y ∷ ls) [] (suc i) x b = refl
both_set (y ∷ ls) (m ∷ ms) zero x b = refl
both_set (y ∷ ls) (m ∷ ms) (suc i) x b = ap (λ hs. hook_by y m ∷ hs) (both_set ls ms i x b)

mark_set : (ls : List Links) (ms : List Bool) (i : ℕ) (b : Bool) → hooks_by ls (set ms i b) ≡ set (hooks_by ls ms) i (hook_by (links_at ls i) b)
mark_set [] ms i b = refl
mark_set (y ∷ ls) [] i b = refl
mark_set (y ∷ ls) (m ∷ ms) zero b = refl
mark_set (y ∷ ls) (m ∷ ms) (suc i) b = ap (λ hs. hook_by y m ∷ hs) (mark_set ls ms i b)

-- a hook for list 0 is set
pub set_first : (ls : List Links) (ms : List Bool) (i : ℕ) (h : Hook) → i ≡ 0 → h.linked ≡ true → hooks_of (set ls i (record { next = h.next; prev = h.prev })) ms ≡ set (hooks_of ls ms) i h
set_first ls ms i h z on =
    let l : Links = record { next = h.next; prev = h.prev } in
    links_set ls (true ∷ ms) i l ∙ ap (set (hooks_of ls ms) i) (ap (λ n. hook_by l (mark_at (true ∷ ms) n)) z ∙ ap (hook_by l) (sym on))

-- a hook for another list is set
pub set_other : (ls : List Links) (ms : List Bool) (i k : ℕ) (h : Hook) → i ≡ suc k → hooks_of (set ls i (record { next = h.next; prev = h.prev })) (set ms k h.linked) ≡ set (hooks_of ls ms) i h
set_other ls ms i k h e =
    let l : Links = record { next = h.next; prev = h.prev } in
    subst (λ n. hooks_of (set ls n l) (set ms k h.linked) ≡ set (hooks_of ls ms) n h) (sym e) (both_set ls (true ∷ ms) (suc k) l h.linked)

pub next_set : (ls : List Links) (ms : List Bool) (i : ℕ) (n : Address) → i < length (hooks_of ls ms) → hooks_of (set ls i (record { next = n; prev = (links_at ls i).prev })) ms ≡ set (hooks_of ls ms) i (with_next (hook_in (hooks_of ls ms) i) n)
next_set ls ms i n l = links_set ls (true ∷ ms) i (record { next = n; prev = (links_at ls i).prev }) ∙ ap (λ h. set (hooks_of ls ms) i (with_next h n)) (sym (read ls (true ∷ ms) i l))

pub prev_set : (ls : List Links) (ms : List Bool) (i : ℕ) (p : Address) → i < length (hooks_of ls ms) → hooks_of (set ls i (record { next = (links_at ls i).next; prev = p })) ms ≡ set (hooks_of ls ms) i (with_prev (hook_in (hooks_of ls ms) i) p)
prev_set ls ms i p l = links_set ls (true ∷ ms) i (record { next = (links_at ls i).next; prev = p }) ∙ ap (λ h. set (hooks_of ls ms) i (with_prev h p)) (sym (read ls (true ∷ ms) i l))

pub mark_off : (ls : List Links) (ms : List Bool) (i k : ℕ) → i < length (hooks_of ls ms) → i ≡ suc k → hooks_of ls (set ms k false) ≡ set (hooks_of ls ms) i (unmarked (hook_in (hooks_of ls ms) i))
mark_off ls ms i k l e =
    subst (λ n. hooks_of ls (set ms k false) ≡ set (hooks_of ls ms) n (hook_by (links_at ls n) false)) (sym e) (mark_set ls (true ∷ ms) (suc k) false) ∙ ap (λ h. set (hooks_of ls ms) i (unmarked h)) (sym (read ls (true ∷ ms) i l))

-- ---- none is marked
long_both : (n m : ℕ) (l : Links) (b : Bool) → n ≡ m → length (hooks_by (replicate n l) (replicate m b)) ≡ n
long_both zero m l b e = refl
long_both (suc n) zero l b e = absurd (omega (arith, e))
long_both (suc n) (suc m) l b e = ap suc (long_both n m l b (omega (arith, e)))

-- the first mark is that of list 0
pub long_none : (n m : ℕ) (l : Links) → n ≡ m + 1 → length (hooks_of (replicate n l) (replicate m false)) ≡ n
long_none zero m l e = refl
long_none (suc n) m l e = ap suc (long_both n m l false (omega (arith, e)))

none_marked : (ls : List Links) (k i : ℕ) → (hook_in (hooks_by ls (replicate k false)) i).linked ≡ false
none_marked [] k i = refl
none_marked (l ∷ ls) zero i = refl
none_marked (l ∷ ls) (suc k) zero = refl
none_marked (l ∷ ls) (suc k) (suc i) = none_marked ls k i

pub off_but_first : (ls : List Links) (k i : ℕ) → 0 < i → (hook_in (hooks_of ls (replicate k false)) i).linked ≡ false
off_but_first [] k i m = refl
off_but_first (l ∷ ls) k zero m = absurd (omega (arith, m))
off_but_first (l ∷ ls) k (suc i) m = none_marked ls k i
