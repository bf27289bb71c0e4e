-- What a cache ends as, once the reference that `get` returned has ended.
use Rattle.std.specs.Prelude.{◌≡◌, ⊤, Bool}
use Rattle.std.specs.Borrow.{Fml, RattleType, MutBor, follows_so}
use Rattle.std.specs.HashMap.Lent.{HashMembers}
use Rattle.std.specs.declared.hash.Hasher as hasher
use Rattle.std.specs.declared.hash.BuildHasher as builder
use mathlib.Core.Option.{none}
use Rattle.cordyceps_uses.specs.contracts.recency.Cache.{the_row}
use Rattle.cordyceps_uses.specs.Keyed.{moved_back}
use Rattle.cordyceps_uses.specs.Recency.{Held}

module _ (K V S H : RattleType) (key : HashMembers K.Denot) (build : builder.Ghosts S.Denot H.Denot)
    (hash : hasher.Ghosts H.Denot) where
  -- the cache's type, as the logic holds it
  abbrev pub cache_row : RattleType
  cache_row = the_row K V S H (record { eq = key.eq }) (record { hash_input = key.hash_input }) build hash

  -- the entry that passes the test is the last used one, and nothing else changes
  abbrev pub ends_used : MutBor (Held K.Denot V.Denot) → (K.Denot → Bool) → Fml
  ends_used c test = follows_so cache_row cache_row c.ghost_name none (λ _ _. ⊤)
      (λ n. n ≡ record { entries = moved_back test c.now.entries; capacity = c.now.capacity })
