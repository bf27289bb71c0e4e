-- The word head of a shared transfer stack, and what it and the stack's parties have to do with the history.
use Rattle.std.specs.Prelude.{◌≡◌, ◌⊎◌, ℕ, ◌+◌, ◌≤◌, List, ◌∷◌, ◌++◌, reverse}
use mathlib.Core.Option.{some}
use lib.ListN.{get_elem?}
use Rattle.cordyceps_shared.specs.Counts.{tally, times}
use Rattle.cordyceps_shared.specs.Histories.{events, NoneOf}
use Rattle.cordyceps_shared.specs.Shares.{Name}
use Rattle.cordyceps_shared.specs.Words.{head}
use Rattle.cordyceps_stack.specs.History.{Event, Load, held, Legal, SomeChange}
use Rattle.cordyceps_stack.specs.Cores.Stages.{room_elements}
use Rattle.cordyceps_stack.specs.Shared.Slots.{start}
use Rattle.cordyceps_stack.specs.Shared.View.{Doing, Idle, Loaded, LoadedAll, Holding, Walking, View, in_chain, count_with_party}

-- each event with the seat of its party
abbrev pub History : Type 0 → Type 0
History E = List (ℕ × Event Name E)

module _ {E : Type 0} where
  -- the last event of seat j is a load, at which it read this; and where head is another now, it was changed since
  pub record Since (words : List ℕ) (history : History E) (j read : ℕ) : Type 0 where
    pub before : History E
    pub name : Name
    pub later : History E
    pub is : history ≡ before ++ (j, Load name) ∷ later
    pub none : NoneOf j later
    pub same : (head words ≡ read) ⊎ SomeChange (events later)

  -- what holds of a party that does this
  abbrev pub AtDoing : List ℕ → History E → ℕ → Doing E → Type 0
  AtDoing words history j Idle = Unit {0}
  AtDoing words history j (Loaded r read) = Since words history j read
  AtDoing words history j (LoadedAll rooms read) = Since words history j read
  AtDoing words history j (Holding rooms) = Unit {0}
  AtDoing words history j (Walking xs) = Unit {0}

  -- the history is legal, head leads to the chain of what it holds, no room is in two places, and what a party does is
  -- what its events led it to
  pub record WordsMeet (words : List ℕ) (chain : List (ℕ × E)) (pool : List ℕ) (views : List (View E))
      (history : History E) : Type 0 where
    pub legal : Legal (events history)
    pub top : head words ≡ start chain
    pub holds : room_elements chain ≡ reverse (held (events history))
    pub apart : (r : ℕ) → in_chain r chain + times r pool + tally (count_with_party r) views ≤ 1
    pub each : (j : ℕ) (v : View E) → get_elem? views j ≡ some v → AtDoing words history j v.doing
