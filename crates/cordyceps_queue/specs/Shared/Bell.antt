-- The bell of a queue: what the steps on its word tell a party, of its seat m before, of the word that it found, and of
-- its seat k after; and what the calls promise, of the party u before, and of the party w after.
use Rattle.std.specs.Prelude.{◌≡◌, ◌≢◌, ℕ, List, [], ◌∷◌, ◌++◌, Bool, true, Result, Ok, Err}
use Rattle.cordyceps_shared.specs.Histories.{plain, others}
use Rattle.cordyceps_shared.specs.Shares.{Name}
use Rattle.cordyceps_shared.specs.Slots.{TableStep, view, hand}
use Rattle.cordyceps_shared.specs.Standings.{name_of}
use Rattle.cordyceps_queue.specs.declared.cores.steps.TryDequeueError.{TryDequeueError}
use Rattle.cordyceps_queue.specs.Bells.{IsQuiet, clears, OwesRing}
use Rattle.cordyceps_queue.specs.History.{Event, Take, Look, Ring, Clear}
use Rattle.cordyceps_queue.specs.Shared.Calls.{PartyOf, same_name, Adds, BlockedAfter, Dequeues}
use Rattle.cordyceps_queue.specs.Shared.Plays.{SeatState, Sees}
use Rattle.cordyceps_queue.specs.Shared.View.{name}

module _ {E : Type 0} where
  -- the party has seen all, with these events of its own, and all else of its seat is as before
  pub record Hears (es : List (Event Name E)) (m k : SeatState E) : Type 0 where
    pub view_is : view k ≡ record (view m) { known = (view k).known }
    pub hand : hand k ≡ hand m
    pub sees : Sees (view m) es (view k)

  -- a load before a ring: where the bell is rung already, that is the ring
  abbrev pub after_listen : TableStep E → SeatState E → ℕ → SeatState E → Type 0
  after_listen st m found k =
      (found ≡ 1 → Hears (Event.Ring (name (view m)) ∷ []) m k) × (found ≢ 1 → Hears [] m k)

  -- a swap with 1
  abbrev pub after_ring : TableStep E → SeatState E → ℕ → SeatState E → Type 0
  after_ring st m found k = Hears (Event.Ring (name (view m)) ∷ []) m k

  -- a compare-exchange of 1 with 0
  abbrev pub after_clear : TableStep E → SeatState E → ℕ → SeatState E → Type 0
  after_clear st m found k = Hears (Event.Clear (name (view m)) ∷ []) m k

  -- a compare-exchange of 0 with 2: where the bell is not rung, the history says so
  abbrev pub after_doze : TableStep E → SeatState E → ℕ → SeatState E → Type 0
  after_doze st m found k = Hears [] m k × (found ≢ 1 → IsQuiet (plain (view k).known.seen))

  -- it rang the bell; it cleared it
  abbrev pub RingsBell : PartyOf E → PartyOf E → Type 0
  RingsBell u w = Adds u (Ring (name_of u) ∷ []) w × (w.rooms ≡ u.rooms)

  abbrev pub ClearsBell : PartyOf E → PartyOf E → Type 0
  ClearsBell u w = Adds u (Clear (name_of u) ∷ []) w × (w.rooms ≡ u.rooms)

  -- it saw whether the bell was rung, and slept only if it was not
  abbrev pub Sleeps : Bool → PartyOf E → PartyOf E → Type 0
  Sleeps slept u w = Adds u [] w × (w.rooms ≡ u.rooms) × (slept ≡ true → IsQuiet (plain w.seen))

  -- no other party cleared the bell since
  abbrev pub NoOtherClears : PartyOf E → PartyOf E → Type 0
  NoOtherClears u w = (rest : List (Bool × Event Name E)) → w.seen ≡ u.seen ++ rest → clears (others rest) ≡ 0

  -- it cleared the bell and tried to dequeue, and slept if it got no element
  abbrev pub TriesOrSleeps : Result E (TryDequeueError × Bool) → PartyOf E → PartyOf E → Type 0
  TriesOrSleeps (Ok e) u w = (v : PartyOf E) × ClearsBell u v × Dequeues (Ok e) v w
  TriesOrSleeps (Err (why, slept)) u w =
      (v x : PartyOf E) × ClearsBell u v × Dequeues (Err why) v x × Sleeps slept x w

  -- its try was blocked by a party that has yet to ring
  abbrev pub BlockerOwes : PartyOf E → PartyOf E → Type 0
  BlockerOwes u w =
      (b : BlockedAfter u (Clear (name_of u) ∷ Take (name_of u) ∷ Look (name_of u) ∷ []) w)
      × OwesRing same_name b.blocked.by (plain w.seen)
