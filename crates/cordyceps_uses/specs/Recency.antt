-- A cache by recency: keys and values, what was used longest ago first.
use Rattle.std.specs.Prelude.{◌≡◌, ◌<◌, ◌≤◌, ℕ, Bool, List, [], ◌∷◌, ◌++◌, length, Option, Some, None, drop, slice_get, nat_lt, if◌then◌else◌}
use Rattle.std.specs.Map.{lookup_entry, remove_entry}
use Rattle.cordyceps.specs.Spots.StableMap.{Mapped}
use Rattle.cordyceps_uses.specs.Keyed.{order}

-- what a contract sees of a cache
pub record Held (K V : Type 0) : Type 0 where
  pub entries : List (K × V)
  pub capacity : ℕ

module _ {K V : Type 0} where
  -- the entry that was used longest ago, if there is no room for one more
  abbrev pub evicted : ℕ → List (K × V) → Option (K × V)
  evicted capacity s = if nat_lt (length s) capacity then None else slice_get s 0

  -- the entries without that one
  abbrev pub with_room : ℕ → List (K × V) → List (K × V)
  with_room capacity s = if nat_lt (length s) capacity then s else drop 1 s

  -- the entries after the entry x came, whose key the test asks for: one that is there keeps its key
  abbrev pub stored : ℕ → (K → Bool) → K × V → List (K × V) → List (K × V)
  stored capacity test x s =
      elim (lookup_entry test s) [
        | Some y ↦ remove_entry test s ++ (y.0, x.1) ∷ []
        | None ↦ with_room capacity s ++ x ∷ []
      ]

  -- what goes for an entry with the key k: k with the old value, or the entry that made room
  abbrev pub displaced : ℕ → (K → Bool) → K → List (K × V) → Option (K × V)
  displaced capacity test k s =
      elim (lookup_entry test s) [ Some y ↦ Some (k, y.1) | None ↦ evicted capacity s ]

  -- the entry of s that passes the test had the value v, and comes last in t, with the value w
  pub record IsReplaced (test : K → Bool) (v w : V) (s t : List (K × V)) : Type 0 where
    pub key : K
    pub found : lookup_entry test s ≡ Some (key, v)
    pub entries : t ≡ remove_entry test s ++ (key, w) ∷ []

  pub record IsHeld (m : Mapped (K × V)) (capacity : ℕ) : Type 0 where
    pub some : 0 < capacity
    pub fits : length (order 0 m) ≤ capacity
