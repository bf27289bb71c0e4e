-- A cache with a bound and with expiry: keys with values and times, what was used longest ago first.
use Rattle.std.specs.Prelude.{◌≡◌, ◌<◌, ◌≤◌, ◌⊎◌, ℕ, Bool, true, List, [], ◌∷◌, ◌++◌, length, Option, Some, None, MatchOption, nat_lt, if◌then◌else◌}
use Rattle.std.specs.List.{All}
use Rattle.std.specs.Map.{lookup_entry, remove_entry}
use denote.RawPtr.{Ptr}
use Rattle.cordyceps.specs.Spots.MultiList.{list_at}
use Rattle.cordyceps.specs.Spots.StableMap.{Mapped}
use Rattle.cordyceps.specs.Spots.Threads.{is_in}
use Rattle.cordyceps_uses.specs.declared.expiring.Timed.{Timed}
use Rattle.cordyceps_uses.specs.Keyed.{order, moved_back, IsOut, AreFrom}

-- a key with its value and its time
abbrev pub Entry : Type 0 → Type 0 → Type 0
Entry K V = K × Timed V

-- what a contract sees of a cache
pub record Kept (K V : Type 0) : Type 0 where
  pub entries : List (Entry K V)
  pub capacity : ℕ

module _ {K V : Type 0} where
  -- the entry is expired, or is not
  abbrev pub IsExpired : ℕ → Entry K V → Type 0
  IsExpired now x = x.1.until ≤ now

  abbrev pub IsLive : ℕ → Entry K V → Type 0
  IsLive now x = now < x.1.until

  -- the entry that passes the test, if there is one and it is not expired
  abbrev pub live : ℕ → (K → Bool) → List (Entry K V) → Option (Entry K V)
  live now test s =
      elim (lookup_entry test s) [ Some x ↦ if nat_lt now x.1.until then Some x else None | None ↦ None ]

  -- the entries after that one was used
  abbrev pub used : ℕ → (K → Bool) → List (Entry K V) → List (Entry K V)
  used now test s = elim (live now test s) [ Some x ↦ moved_back test s | None ↦ s ]

  -- the entry with another time
  abbrev pub with_until : ℕ → Entry K V → Entry K V
  with_until until x = (x.0, record { value = x.1.value; until = until })

  -- the entries after that one got another time and was used
  abbrev pub renewed : ℕ → ℕ → (K → Bool) → List (Entry K V) → List (Entry K V)
  renewed now until test s = elim (live now test s) [ Some x ↦ remove_entry test s ++ with_until until x ∷ [] | None ↦ s ]

  -- x is expired, and no entry expires earlier
  pub record IsFirstExpired (now : ℕ) (s : List (Entry K V)) (x : Entry K V) : Type 0 where
    pub expired : IsExpired now x
    pub first : All (λ y. x.1.until ≤ y.1.until) s

  -- x was used longest ago, and no entry is expired
  pub record IsLongestUnused (now : ℕ) (s : List (Entry K V)) (x : Entry K V) : Type 0 where
    pub live : All (IsLive now) s
    pub after : List (Entry K V)
    pub whole : s ≡ x ∷ after

  module _ (eq : K → K → Bool) where
    -- x goes from a full cache for a key that has no entry
    pub record IsEvicted (capacity now : ℕ) (s : List (Entry K V)) (k : K) (x : Entry K V) : Type 0 where
      pub absent : lookup_entry (eq k) s ≡ None
      pub full : capacity ≤ length s
      pub oldest : IsFirstExpired now s x ⊎ IsLongestUnused now s x

    -- nothing goes for the key k
    pub record IsSpare (capacity : ℕ) (s : List (Entry K V)) (k : K) (rest : List (Entry K V)) : Type 0 where
      pub absent : lookup_entry (eq k) s ≡ None
      pub room : length s < capacity
      pub same : rest ≡ s

    -- x goes for the key k: it is the entry of the key, or is evicted
    pub record IsDisplaced (capacity now : ℕ) (s : List (Entry K V)) (k : K) (x : Entry K V) (rest : List (Entry K V)) :
        Type 0 where
      pub out : IsOut eq s x rest
      pub why : (lookup_entry (eq k) s ≡ Some x) ⊎ IsEvicted capacity now s k x

    -- the key k has no entry any more, and at most one entry went for it
    pub record HasRoom (capacity now : ℕ) (s : List (Entry K V)) (k : K) (out : Option (Entry K V))
        (rest : List (Entry K V)) : Type 0 where
      pub displaced : MatchOption out (IsSpare capacity s k rest) (λ x. IsDisplaced capacity now s k x rest)
      pub absent : lookup_entry (eq k) rest ≡ None

    -- x came last and is the entry of its key, and what went for it is `out`
    pub record IsStored (capacity now : ℕ) (s : List (Entry K V)) (x : Entry K V) (out : Option (Entry K V))
        (t : List (Entry K V)) : Type 0 where
      pub rest : List (Entry K V)
      pub room : HasRoom capacity now s x.0 out rest
      pub entries : t ≡ rest ++ x ∷ []
      pub found : lookup_entry (eq x.0) t ≡ Some x

-- ---- the nodes
module _ {K V : Type 0} where
  -- what was used longest ago first, and what expires first first
  abbrev pub by_use : Mapped (Entry K V) → List (Entry K V)
  by_use m = order 0 m

  abbrev pub by_time : Mapped (Entry K V) → List (Entry K V)
  by_time m = order 1 m

  -- list 1 has the nodes of list 0, in the order of their times
  pub record AreTimed (m : Mapped (Entry K V)) : Type 0 where
    pub long : length (list_at 1 m.lists) ≡ length (list_at 0 m.lists)
    pub all : (p : Ptr) → is_in p (list_at 0 m.lists) ≡ true → is_in p (list_at 1 m.lists) ≡ true
    pub sorted : AreFrom (λ (t : Timed V). t.until) 0 (by_time m)

  pub record IsKept (m : Mapped (Entry K V)) (capacity : ℕ) : Type 0 where
    pub some : 0 < capacity
    pub fits : length (by_use m) ≤ capacity
    pub timed : AreTimed m
