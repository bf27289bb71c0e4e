-- The rule of a transfer stack's table, which each step of each party keeps.
use Rattle.std.specs.Prelude.{◌≡◌, ℕ, ◌+◌, ◌≤◌, List, [], length}
use mathlib.Core.Option.{some}
use lib.ListN.{get_elem?}
use Rattle.atomic_table.specs.Table.{State}
use Rattle.atomic_table.specs.Seated.{TableId}
use Rattle.cordyceps_base.specs.declared.shared.TheConstants.{MAX_ROOMS}
use Rattle.cordyceps_shared.specs.Counts.{tally}
use Rattle.cordyceps_shared.specs.FreeChains.{FreeChain}
use Rattle.cordyceps_shared.specs.Knowing.{SharesDisjoint, AllAgree}
use Rattle.cordyceps_shared.specs.Pools.{LeadsTo}
use Rattle.cordyceps_shared.specs.Words as word
use Rattle.cordyceps_shared.specs.declared.layout.TheConstants.{LINKS}
use Rattle.cordyceps_stack.specs.declared.shared.slot.Slot.{Slot}
use Rattle.cordyceps_stack.specs.History.{actor}
use Rattle.cordyceps_stack.specs.Shared.Slots.{in_use, all_vacant, AtHome}
use Rattle.cordyceps_stack.specs.Shared.View.{View, knows, room_count}
use Rattle.cordyceps_stack.specs.Shared.Words.{History, WordsMeet}

abbrev pub TableState : Type 0 → Type 0
TableState E = State (Slot E) (View E)

module _ {E : Type 0} where
  -- there is one history, which head, the slots and the parties meet, and of which each party has seen a prefix. Each
  -- room is in the chain, in the pool, or with a party that has a share
  pub record RuleHolds (s : TableState E) : Type 0 where
    pub history : History E
    pub chain : List (ℕ × E)
    pub pool : FreeChain
    pub meets : WordsMeet s.words chain pool.rooms s.views history
    pub wide : length s.words ≡ LINKS
    pub full : AtHome s.homes (in_use chain)
    pub free : (j : ℕ) (v : View E) → get_elem? s.views j ≡ some v
        → AtHome s.homes (all_vacant v.free.rooms v.free.end)
    pub pooled : AtHome s.homes (all_vacant pool.rooms pool.end)
    pub word_is : LeadsTo (word.pool s.words) pool
    pub all : length chain + length pool.rooms + tally room_count s.views ≡ length s.homes
    pub spent : (j : ℕ) (v : View E) → get_elem? s.views j ≡ some v → v.known.share ≡ [] → room_count v ≡ 0
    pub fits : AllAgree actor knows s.views history
    pub owned : SharesDisjoint knows s.views history

-- as many words as precede a queue's links, and at most as many slots as a stack may have rooms
abbrev pub IsTable : TableId → Type 0
IsTable z = (z.words ≡ LINKS) × (z.slots ≤ MAX_ROOMS)
