-- What the parts of a call on a shared queue leave: of the party's seat m before, and of its seat k after.
use Rattle.std.specs.Prelude.{◌≡◌, ◌≢◌, ℕ, zero, suc, ◌+◌, ◌*◌, ◌<◌, ◌≤◌, List, [], ◌∷◌, ◌++◌, length, drop, Bool, true, false}
use Rattle.std.specs.Prelude.{Option, Some, None}
use Rattle.atomic_table.specs.Seated.{TableId}
use Rattle.cordyceps_shared.specs.FreeChains.{FreeChain, Tracks, MayJoin, leads}
use Rattle.cordyceps_shared.specs.Histories.{plain, AllOwn}
use Rattle.cordyceps_shared.specs.Shares.{Name, whole, IsShare}
use Rattle.cordyceps_shared.specs.Words as word
use Rattle.cordyceps_shared.specs.declared.layout.TheConstants.{LINKS}
use Rattle.cordyceps_queue.specs.Shared.Parting.{view_absorbing, view_without_told}
use Rattle.cordyceps_queue.specs.declared.cores.stage.Stage.TheVariants.{Rest, Cleared, Swapped, Holding}
use Rattle.cordyceps_queue.specs.declared.shared.table.Tried.{Tried}
use Rattle.cordyceps_queue.specs.declared.shared.table.Tried.TheVariants.{Out, Empty, Inconsistent}
use Rattle.cordyceps_queue.specs.History.{Event, held, holder}
use Rattle.cordyceps_shared.specs.Slots.{Near, view, hand}
use Rattle.cordyceps_queue.specs.Shared.Plays.{SeatState, Sees, IsResting, IsHolding, HandsOneOut, carry, MovesTo}
use Rattle.cordyceps_queue.specs.Shared.Plays.{Blocked}
use Rattle.cordyceps_queue.specs.Shared.Rule.{IsTable}
use Rattle.cordyceps_queue.specs.Shared.Calls.{PartyOf, Legal, NonePending, NoneHolds}
use Rattle.cordyceps_queue.specs.declared.shared.spare.Spare.{Spare}
use Rattle.cordyceps_queue.specs.Shared.View.{View, name, free_chain, back_chain, all_rooms, with_first_rooms}

-- a seat of this table, which is a queue's
abbrev pub IsSeatOf : TableId → TableId → Type 0
IsSeatOf seat table = (seat ≡ table) × IsTable table

-- the plain words of a new queue, all of whose rooms are free
pub record AreNew (words : List ℕ) (rooms : ℕ) : Type 0 where
  pub wide : length words ≡ LINKS + rooms + 1
  pub head : word.head words ≡ 0
  pub right : word.right words ≡ 1
  pub linked : (r : ℕ) → r ≤ rooms → word.next words r ≡ r

-- its words, where each room's use has the bit 0, and the stub's link is of an earlier use
pub record AreNewWords (words : List ℕ) (rooms : ℕ) : Type 0 where
  pub wide : length words ≡ LINKS + rooms + 1
  pub pool : word.pool words ≡ 0
  pub head : word.head words ≡ 0
  pub right : word.right words ≡ 2
  pub stub : word.next words 0 ≡ 1
  pub linked : (r : ℕ) → 1 ≤ r → r ≤ rooms → word.next words r ≡ 4 * r

-- what a party has of its free rooms, and the last one's link
pub record TracksEnd (spare : Spare) (chain : FreeChain) : Type 0 where
  pub tracks : Tracks spare.rooms chain
  pub end : chain.rooms ≢ [] → spare.end ≡ chain.end

module _ {E : Type 0} where
  -- a party that rested has begun a use of its first free room for this element, and has the room's slot in hand
  pub record IsBegun (slots room next : ℕ) (e : E) (m k : SeatState E) : Type 0 where
    pub stage : (view k).stage ≡ Cleared room
    pub item : (view k).item ≡ Some e
    pub free : (view m).free ≡ room ∷ (view k).free
    pub end : (view k).end ≡ (view m).end
    pub next_is : next ≡ leads (view k).free (view k).end
    pub back : (view k).back ≡ []
    pub hand : hand k ≡ (room, None) ∷ []
    pub near : room < slots
    pub sees : Sees (view m) [] (view k)

  -- it has made that room the head
  pub record IsSwapped (slots room old : ℕ) (e : E) (m k : SeatState E) : Type 0 where
    pub stage : (view k).stage ≡ Swapped room old
    pub free : (view k).free ≡ (view m).free
    pub end : (view k).end ≡ (view m).end
    pub back : (view k).back ≡ []
    pub hand : hand k ≡ []
    pub near : old < slots
    pub sees : Sees (view m) (Event.Swap (name (view m)) e ∷ []) (view k)

  -- what a try came to, after these events, and the tail after it
  abbrev pub Tries : List (Event Name E) → ℕ → SeatState E → SeatState E → ℕ → Tried E → Type 0
  Tries before slots m k t (Out room e) = HandsOneOut before slots room t e m k
  Tries before slots m k t Empty =
      IsHolding slots t k × MovesTo (before ++ Event.Empty (name (view m)) ∷ []) (Holding t) m k
  Tries before slots m k t Inconsistent = IsHolding slots t k × MovesTo before (Holding t) m k × Blocked (view k)

  -- the party took the right, or another party has it
  abbrev pub AsksRight : ℕ → ℕ → SeatState E → SeatState E → Type 0
  AsksRight slots zero m k = IsResting slots k × MovesTo (Event.Busy (name (view m)) ∷ []) Rest m k
  AsksRight slots (suc t) m k = IsHolding slots t k × MovesTo (Event.Take (name (view m)) ∷ []) (Holding t) m k

  -- the party has the slots in hand that it has yet to give back, and the last free room leads to their rooms
  pub record MayReturn (slots : ℕ) (m : SeatState E) : Type 0 where
    pub carries : hand m ≡ carry (view m).back
    pub named : (view m).known.share ≢ []
    pub near : Near slots ((view m).free ++ (view m).back)
    pub joins : MayJoin (free_chain (view m)) (back_chain (view m))

  -- the last free room has another link, if any, and all else is as before
  pub record Relinked (m k : SeatState E) : Type 0 where
    pub view : view k ≡ record (view m) { end = (view k).end }
    pub hand : hand k ≡ hand m

  -- it has absorbed another seat, and has seen what the two had seen
  pub record HasAbsorbed (m other k : SeatState E) : Type 0 where
    pub known : (view k).known ≡ (view_without_told (view_absorbing (view m) (view other))).known
    pub stage : (view k).stage ≡ Rest
    pub free : (view k).free ≡ (view m).free ++ (view other).free
    pub back : (view k).back ≡ []
    pub hand : hand k ≡ []

  -- it took the right, saw that it was blocked when it looked, and gave the right back
  pub record LookedBlocked (m k : SeatState E) : Type 0 where
    pub at : View E
    pub looks : Sees (view m) (Event.Take (name (view m)) ∷ Event.Look (name (view m)) ∷ []) at
    pub blocked : Blocked at
    pub gives : Sees at (Event.Free (name (view m)) ∷ []) (view k)

  -- a whole try of a party that rested: `None` beside another holder
  abbrev pub Dequeued : ℕ → SeatState E → SeatState E → Option (Tried E) → Type 0
  Dequeued slots m k None = ((view k).free ≡ (view m).free) × Sees (view m) (Event.Busy (name (view m)) ∷ []) (view k)
  Dequeued slots m k (Some (Out room e)) =
      ((view k).free ≡ (view m).free ++ room ∷ [])
      × Sees (view m) (Event.Take (name (view m)) ∷ Event.Look (name (view m)) ∷ Event.Out (name (view m)) e
      ∷ Event.Free (name (view m)) ∷ []) (view k)
      × (length (view m).free ≤ slots)
  Dequeued slots m k (Some Empty) =
      ((view k).free ≡ (view m).free)
      × Sees (view m) (Event.Take (name (view m)) ∷ Event.Look (name (view m)) ∷ Event.Empty (name (view m))
      ∷ Event.Free (name (view m)) ∷ []) (view k)
  Dequeued slots m k (Some Inconsistent) = ((view k).free ≡ (view m).free) × LookedBlocked m k

  -- ---- the pool
  -- it took the pool, in which so many rooms were, and sees all
  pub record Refills (slots n : ℕ) (m k : SeatState E) : Type 0 where
    pub rests : IsResting slots k
    pub free : length (view k).free ≡ length (view m).free + n
    pub few : length (view k).free ≤ slots
    pub sees : Sees (view m) [] (view k)
    pub all : (view m).known.share ≡ whole
        → suc (length (held (plain (view k).known.seen)) + length (view k).free) ≡ slots

  -- it gave the first n of its free rooms to the pool, or did nothing
  abbrev pub GivesBack : ℕ → Bool → SeatState E → SeatState E → Type 0
  GivesBack n true m k = k ≡ (record (view m) { free = drop n (view m).free }, hand m)
  GivesBack n false m k = k ≡ m

  -- it gave its free rooms after the first n to the pool, or did nothing
  abbrev pub GivesRest : ℕ → Bool → SeatState E → SeatState E → Type 0
  GivesRest n true m k = k ≡ (with_first_rooms n (view m), hand m)
  GivesRest n false m k = k ≡ m

  -- a party with `had` rooms took the pool, and gave all of it but `most` rooms back if it could
  pub record RefillsTo (slots had most : ℕ) (could : Bool) (m k : SeatState E) : Type 0 where
    pub rests : IsResting slots k
    pub sees : Sees (view m) [] (view k)
    pub more : had ≤ length (view k).free
    pub few : could ≡ true → length (view k).free ≤ had + most
    pub sure : (view m).known.share ≡ whole → could ≡ true
    pub all : (view m).known.share ≡ whole → length (view k).free < had + most
        → suc (length (held (plain (view k).known.seen)) + length (view k).free) ≡ slots

  -- it took n rooms of the pool, and sees all
  pub record RefillsAtMost (slots most n : ℕ) (m k : SeatState E) : Type 0 where
    pub rests : IsResting slots k
    pub free : length (view k).free ≡ length (view m).free + n
    pub sees : Sees (view m) [] (view k)
    pub few : (view m).known.share ≡ whole → n ≤ most
    pub all : (view m).known.share ≡ whole → n < most
        → suc (length (held (plain (view k).known.seen)) + length (view k).free) ≡ slots

  -- ---- parties
  -- what a contract sees of a party with this seat
  abbrev pub standing : TableId → View E → PartyOf E
  standing z v = record { table = z; seen = v.known.seen; share = v.known.share; rooms = length (v.back ++ v.free) }

  -- the party is between two calls, has its free rooms, and has seen a legal history, a whole party with no event of
  -- another; its names are a share, of which none is pending, and none has the right
  pub record IsSeated (z : TableId) (m : SeatState E) (spare : Spare) : Type 0 where
    pub table : IsTable z
    pub rests : IsResting z.slots m
    pub tracks : TracksEnd spare (free_chain (view m))
    pub legal : Legal (plain (view m).known.seen)
    pub alone : (view m).known.share ≡ whole → AllOwn (view m).known.seen
    pub share : IsShare (view m).known.share
    pub linked : NonePending (view m).known.share (plain (view m).known.seen)
    pub unheld : NoneHolds (view m).known.share (plain (view m).known.seen)

  -- the party has the right, its tail is t, and it has its rooms; it has seen a legal history, a whole party with no
  -- event of another; its names are a share, of which none is pending, and the first has the right
  pub record IsConsuming (z : TableId) (t : ℕ) (m : SeatState E) (spare : Spare) : Type 0 where
    pub table : IsTable z
    pub holds : IsHolding z.slots t m
    pub tracks : TracksEnd spare (all_rooms (view m))
    pub legal : Legal (plain (view m).known.seen)
    pub alone : (view m).known.share ≡ whole → AllOwn (view m).known.seen
    pub share : IsShare (view m).known.share
    pub linked : NonePending (view m).known.share (plain (view m).known.seen)
    pub held : holder (plain (view m).known.seen) ≡ Some (name (view m))
