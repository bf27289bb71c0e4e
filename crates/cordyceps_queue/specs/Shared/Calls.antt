-- What the calls of a shared queue promise: of the party u before, and of the party w after.
use Rattle.std.specs.Prelude.{◌≡◌, ◌≢◌, ◌⊎◌, ℕ, suc, ◌+◌, ◌-◌, ◌<◌, ◌≤◌, List, [], ◌∷◌, ◌++◌, length, Bool, true, false}
use Rattle.std.specs.Prelude.{Option, Some, None, Result, Ok, Err}
use mathlib.Core.Bool.{Bool-discrete}
use mathlib.Core.List.{List-discrete}
use Rattle.atomic_table.specs.Seated.{TableId}
use Rattle.cordyceps_shared.specs.Histories.{plain, own}
use Rattle.cordyceps_shared.specs.Shares.{Name, IsOf}
use Rattle.cordyceps_shared.specs.Standings.{Standing, name_of}
use Rattle.cordyceps_shared.specs.Standings as parties
use Rattle.cordyceps_queue.specs.declared.cores.steps.TryDequeueError.{TryDequeueError}
use Rattle.cordyceps_queue.specs.declared.cores.steps.TryDequeueError.TheVariants as error
use Rattle.cordyceps_queue.specs.History.{Event, Swap, Link, Take, Busy, Look, Out, Empty, Free, actor, held, holder}
use Rattle.cordyceps_queue.specs.History.{IsLegal, IsPending, IsBlocked}

-- what a contract sees of a queue: its table, and the stub that its maker handed in
pub record QueueOf (E : Type 0) : Type 0 where
  pub table : TableId
  pub stub : Option E

-- how many rooms the queue with this table has: its slots without the stub's
abbrev pub capacity : TableId → ℕ
capacity table = table.slots - 1

-- what a contract sees of a party
abbrev pub PartyOf : Type 0 → Type 0
PartyOf E = Standing (Event Name E)

-- whether two names are the same
abbrev pub same_name : Discrete Name
same_name = List-discrete Bool-discrete

module _ {E : Type 0} where
  abbrev pub Legal : List (Event Name E) → Type 0
  Legal h = IsLegal same_name h

  -- the party has seen more, with exactly these events of its own; those of others carry no name of its share
  abbrev pub Adds : PartyOf E → List (Event Name E) → PartyOf E → Type 0
  Adds u es w = parties.Adds actor (λ h. Legal h) u es w

  -- none of these names is pending
  abbrev pub NonePending : List Name → List (Event Name E) → Type 0
  NonePending names h = (q : Name) → IsOf names q → IsPending same_name q h → ⊥

  -- none of them has the right
  abbrev pub NoneHolds : List Name → List (Event Name E) → Type 0
  NoneHolds names h = (q : Name) → IsOf names q → holder h ≢ Some q

  -- a prefix of what it has seen is blocked, in which its own events are those of before and these
  pub record BlockedAfter (u : PartyOf E) (es : List (Event Name E)) (w : PartyOf E) : Type 0 where
    pub past : List (Bool × Event Name E)
    pub later : List (Bool × Event Name E)
    pub is : w.seen ≡ past ++ later
    pub adds : own past ≡ own u.seen ++ es
    pub blocked : IsBlocked same_name (plain past)

  -- it has these events of its own, has as many rooms as it had, and was blocked after the events of before
  pub record StopsBlocked (u : PartyOf E) (es before : List (Event Name E)) (w : PartyOf E) : Type 0 where
    pub adds : Adds u es w
    pub rooms : w.rooms ≡ u.rooms
    pub prefix : BlockedAfter u before w

  -- it put e in, which took a room
  abbrev pub Enqueues : E → PartyOf E → PartyOf E → Type 0
  Enqueues e u w = Adds u (Swap (name_of u) e ∷ Link (name_of u) ∷ []) w × (u.rooms ≡ suc w.rooms)

  -- it took n rooms of the pool
  abbrev pub Refills : ℕ → PartyOf E → PartyOf E → Type 0
  Refills n u w = Adds u [] w × (w.rooms ≡ u.rooms + n)

  -- it gave all its rooms to the pool, with those that were there; or others gave rooms back each time that it tried, and
  -- it has no fewer than before
  abbrev pub GivesAllBack : Bool → PartyOf E → PartyOf E → Type 0
  GivesAllBack true u w = Adds u [] w × (w.rooms ≡ 0)
  GivesAllBack false u w = Adds u [] w × (u.rooms ≤ w.rooms)

  -- each room is the party's, or has one of the elements that its history holds
  abbrev pub HasAllRooms : PartyOf E → Type 0
  HasAllRooms w = w.rooms + length (held (plain w.seen)) ≡ capacity w.table

  -- some room is neither the party's nor has one of these elements: it is in the pool, or another party's
  abbrev pub LacksRooms : PartyOf E → Type 0
  LacksRooms w = w.rooms + length (held (plain w.seen)) < capacity w.table

  -- it put e in, which took a room; if it had none, it took n of the pool before
  abbrev pub EnqueuesRefilled : E → PartyOf E → PartyOf E → Type 0
  EnqueuesRefilled e u w =
      Adds u (Swap (name_of u) e ∷ Link (name_of u) ∷ []) w
      × ((n : ℕ) × (u.rooms + n ≡ suc w.rooms) × (0 < u.rooms → n ≡ 0))

  -- it had no room, and there was none in the pool
  abbrev pub FindsFull : PartyOf E → PartyOf E → Type 0
  FindsFull u w = Refills 0 u w × (u.rooms ≡ 0)

  -- it took the right, tried, and gave the right back, or another party had the right
  abbrev pub Dequeues : Result E TryDequeueError → PartyOf E → PartyOf E → Type 0
  Dequeues (Ok e) u w =
      Adds u (Take (name_of u) ∷ Look (name_of u) ∷ Out (name_of u) e ∷ Free (name_of u) ∷ []) w
      × (w.rooms ≡ suc u.rooms)
  Dequeues (Err error.Empty) u w =
      Adds u (Take (name_of u) ∷ Look (name_of u) ∷ Empty (name_of u) ∷ Free (name_of u) ∷ []) w × (w.rooms ≡ u.rooms)
  Dequeues (Err error.Inconsistent) u w =
      let n = name_of u in StopsBlocked u (Take n ∷ Look n ∷ Free n ∷ []) (Take n ∷ Look n ∷ []) w
  Dequeues (Err error.Busy) u w = Adds u (Busy (name_of u) ∷ []) w × (w.rooms ≡ u.rooms)

  -- it tried while it had the right
  abbrev pub Consumes : Result E TryDequeueError → PartyOf E → PartyOf E → Type 0
  Consumes (Ok e) u w = Adds u (Look (name_of u) ∷ Out (name_of u) e ∷ []) w × (w.rooms ≡ suc u.rooms)
  Consumes (Err error.Empty) u w = Adds u (Look (name_of u) ∷ Empty (name_of u) ∷ []) w × (w.rooms ≡ u.rooms)
  Consumes (Err error.Inconsistent) u w = StopsBlocked u (Look (name_of u) ∷ []) (Look (name_of u) ∷ []) w
  Consumes (Err error.Busy) u w = ⊥

  -- it took the right; it found it taken; it gave it back
  abbrev pub TakesRight : PartyOf E → PartyOf E → Type 0
  TakesRight u w = Adds u (Take (name_of u) ∷ []) w × (w.rooms ≡ u.rooms)

  abbrev pub FindsBusy : PartyOf E → PartyOf E → Type 0
  FindsBusy u w = Adds u (Busy (name_of u) ∷ []) w × (w.rooms ≡ u.rooms)

  abbrev pub GivesRight : PartyOf E → PartyOf E → Type 0
  GivesRight u w = Adds u (Free (name_of u) ∷ []) w × (w.rooms ≡ u.rooms)

  -- what was found by a party that is alone: an element, or that nothing is held
  abbrev pub IsCertain : Result E TryDequeueError → Type 0
  IsCertain (Ok e) = Unit {0}
  IsCertain (Err error.Empty) = Unit {0}
  IsCertain (Err error.Inconsistent) = ⊥
  IsCertain (Err error.Busy) = ⊥

  -- a party of the same queue, with the same names
  abbrev pub IsSame : PartyOf E → PartyOf E → Type 0
  IsSame u w = (w.table ≡ u.table) × (w.share ≡ u.share)

  -- tries one after the other that failed, and what the party was after each
  abbrev pub Retries : (PartyOf E → PartyOf E → Type 0) → PartyOf E → List (PartyOf E) → PartyOf E → Type 0
  Retries Fails u [] w = u ≡ w
  Retries Fails u (v ∷ vs) w = Fails u v × Retries Fails v vs w

  -- it failed as often as it did, and then ended so
  abbrev pub AtLast : (PartyOf E → PartyOf E → Type 0) → (PartyOf E → PartyOf E → Type 0) → PartyOf E → PartyOf E →
      Type 0
  AtLast Fails Ends u w = (tries : List (PartyOf E)) × (v : PartyOf E) × Retries Fails u tries v × Ends v w

  -- a try that a waiting call follows with another
  abbrev pub MissesDequeue : PartyOf E → PartyOf E → Type 0
  MissesDequeue u w = Dequeues (Err error.Busy) u w ⊎ Dequeues (Err error.Inconsistent) u w

  -- the last try of a waiting call, which gives none where nothing was held
  abbrev pub try_result : Option E → Result E TryDequeueError
  try_result (Some e) = Ok e
  try_result None = Err error.Empty
