-- A wheel of timers: each waits in the slot of its deadline, and is due within a turn.
use Rattle.std.specs.Prelude.{◌≡◌, ℕ, ◌+◌, ◌%◌, ◌<◌, ◌≤◌, List, [], length, slice_index_or, slice_set}
use denote.RawPtr.{Ptr}
use Rattle.cordyceps.specs.Spots.BySpot.{HasSpot}
use Rattle.cordyceps.specs.Elements.Element.{Element}
use Rattle.cordyceps.specs.Elements.Nodes.{Nodes}
use Rattle.cordyceps.specs.Spots.Agreeing.{HasElementAt}
use Rattle.cordyceps_uses.specs.declared.timer_wheel.Timer.{Timer}

-- what a contract sees of a wheel
pub record Dial (P : Type 0) : Type 0 where
  pub time : ℕ
  pub slots : List (Nodes (Timer P))

module _ {P : Type 0} where
  abbrev pub dial : ℕ → List (Nodes (Timer P)) → Dial P
  dial time slots = record { time = time; slots = slots }

  -- the timers in the slot of a deadline
  abbrev pub waiting : ℕ → Dial P → Nodes (Timer P)
  waiting d w = slice_index_or w.slots (d % length w.slots) []

  -- the wheel with these timers in the slot of a deadline
  abbrev pub with_waiting : ℕ → Nodes (Timer P) → Dial P → Dial P
  with_waiting d c w = dial w.time (slice_set w.slots (d % length w.slots) c)

  -- a deadline is in the turn that begins now
  abbrev pub Ahead : ℕ → Dial P → Type 0
  Ahead d w = (w.time ≤ d) × (d < w.time + length w.slots)

  -- a ticket for a deadline and a spot is good: its timer waits
  abbrev pub IsGood : ℕ → Ptr → Dial P → Type 0
  IsGood d p w = HasSpot (waiting d w) p

  -- each timer is in the slot of its deadline, which is ahead
  abbrev pub IsInPlace : Dial P → Type 0
  IsInPlace w =
      (s : ℕ) (q : Ptr) (e : Element (Timer P)) → HasElementAt (slice_index_or w.slots s []) q e
      → (e.id % length w.slots ≡ s) × Ahead e.id w
