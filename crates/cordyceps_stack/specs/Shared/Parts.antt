-- What the parts of a call on a shared transfer stack leave: of the party's seat m before, and of its seat k after.
use Rattle.std.specs.Prelude.{◌≡◌, ◌<◌, ◌≤◌, ℕ, suc, ◌+◌, List, [], ◌∷◌, ◌++◌, length, replicate, Bool, true, false, Option}
use Rattle.std.specs.Prelude.{IsTrue, MatchOption}
use Rattle.atomic_table.specs.Seated.{TableId}
use Rattle.cordyceps_shared.specs.FreeChains.{leads, with_first, first_rooms, rest_rooms, Tracks}
use Rattle.cordyceps_shared.specs.Histories.{plain, AllOwn}
use Rattle.cordyceps_shared.specs.Shares.{whole, IsShare}
use Rattle.cordyceps_shared.specs.declared.free.FreeRooms.{FreeRooms}
use Rattle.cordyceps_stack.specs.History.{Load, Push, Taken, held, Legal}
use Rattle.cordyceps_stack.specs.Cores.Stages.{room_elements}
use Rattle.cordyceps_stack.specs.Shared.Parting.{view_absorbing, view_without_told}
use Rattle.cordyceps_stack.specs.Shared.Plays.{SeatState, Sees, HasHit, HasFailed, IsResting, IsReady, IsWalking}
use Rattle.cordyceps_stack.specs.Shared.Plays.{IsReadyAll, all_then, elements_then, to_hand_out}
use Rattle.cordyceps_stack.specs.Shared.Rule.{IsTable}
use Rattle.cordyceps_stack.specs.Shared.Calls.{PartyOf, EndsPushed, EndsPushedAll, IsOvertaken, pushes_of}
use Rattle.cordyceps_stack.specs.Shared.Slots.{view, hand, start, all_vacant}
use Rattle.cordyceps_stack.specs.Shared.View.{Idle, Holding, Walking, View, name}

-- a seat of this table, which is a stack's
abbrev pub IsSeatOf : TableId → TableId → Type 0
IsSeatOf seat table = (seat ≡ table) × IsTable table

module _ {E : Type 0} where
  -- the slots of the first n free rooms are in hand
  pub record HoldsFirst (n : ℕ) (m k : SeatState E) : Type 0 where
    pub view_is : let rooms = (first_rooms n (view m).free).rooms in
        view k ≡ record (view m) { doing = Holding rooms; free = rest_rooms n (view m).free }
    pub hand : let first = first_rooms n (view m).free in hand k ≡ all_vacant first.rooms first.end

  -- the last free room has another link, if any, and all else is as before
  pub record Relinked (m k : SeatState E) : Type 0 where
    pub known : (view k).known ≡ (view m).known
    pub doing : (view k).doing ≡ (view m).doing
    pub rooms : (view k).free.rooms ≡ (view m).free.rooms
    pub hand : hand k ≡ hand m

  -- it has absorbed another seat, and has seen what the two had seen
  pub record HasAbsorbed (m other k : SeatState E) : Type 0 where
    pub known : (view k).known ≡ (view_without_told (view_absorbing (view m) (view other))).known
    pub doing : (view k).doing ≡ Idle
    pub rooms : (view k).free.rooms ≡ (view m).free.rooms ++ (view other).free.rooms
    pub hand : hand k ≡ []

  -- its exchange came to this
  abbrev pub Settled : ℕ → ℕ → E → Bool → SeatState E → SeatState E → Type 0
  Settled room read x true m k = HasHit x read m k
  Settled room read x false m k = HasFailed room m k

  -- another came between
  pub record HasMissed (m k : SeatState E) : Type 0 where
    pub free : (view k).free ≡ (view m).free
    pub sees : Sees (view m) (Load (name (view m)) ∷ []) (view k)
    pub overtaken : IsOvertaken (view k).known.seen

  -- the last of so many tries of a party that was ready has pushed, and the party rests
  pub record SettlesAt (slots tries : ℕ) (x : E) (was_empty : Bool) (m k : SeatState E) : Type 0 where
    pub rests : IsResting slots k
    pub free : (view k).free ≡ (view m).free
    pub sees : Sees (view m) (replicate tries (Load (name (view m))) ++ Push (name (view m)) x ∷ []) (view k)
    pub ends : EndsPushed x (IsTrue was_empty) (name (view m)) (view k).known.seen

  -- a party that rested has pushed, at the last of so many tries
  pub record HasPushed (tries : ℕ) (x : E) (was_empty : Bool) (m k : SeatState E) : Type 0 where
    pub free : length (view m).free.rooms ≡ suc (length (view k).free.rooms)
    pub sees : Sees (view m) (replicate tries (Load (name (view m))) ++ Push (name (view m)) x ∷ []) (view k)
    pub ends : EndsPushed x (IsTrue was_empty) (name (view m)) (view k).known.seen

  -- a party that rested has put these elements into the slots of its first free rooms, and is ready to push them all
  pub record HasFilled (slots first : ℕ) (before : List (ℕ × E)) (last : ℕ) (x : E) (m k : SeatState E) : Type 0 where
    pub ready : IsReadyAll slots first before last x k
    pub known : (view k).known ≡ (view m).known
    pub rooms : length (view m).free.rooms ≡ length (elements_then before x) + length (view k).free.rooms

  -- another came between, and the party is still ready to push all
  pub record HasKept (slots first : ℕ) (before : List (ℕ × E)) (last : ℕ) (x : E) (k : SeatState E) : Type 0 where
    pub ready : IsReadyAll slots first before last x k
    pub doing : (view k).doing ≡ Walking (all_then before last x)
    pub few : length (all_then before last x) ≤ slots

  -- another came between, and the party has its rooms again
  pub record HasBacked (m k : SeatState E) : Type 0 where
    pub free : length (view k).free.rooms ≡ length (view m).free.rooms
    pub sees : Sees (view m) (Load (name (view m)) ∷ []) (view k)
    pub overtaken : IsOvertaken (view k).known.seen

  -- the last of so many tries of a party that was ready has pushed all, and the party rests
  pub record SettlesAllAt (slots tries : ℕ) (es : List E) (was_empty : Bool) (m k : SeatState E) : Type 0 where
    pub rests : IsResting slots k
    pub free : (view k).free ≡ (view m).free
    pub sees : Sees (view m) (replicate tries (Load (name (view m))) ++ pushes_of (name (view m)) es) (view k)
    pub ends : EndsPushedAll es (IsTrue was_empty) (name (view m)) (view k).known.seen

  -- a party that rested has pushed all, at the last of so many tries
  pub record HasPushedAll (tries : ℕ) (es : List E) (was_empty : Bool) (m k : SeatState E) : Type 0 where
    pub free : length (view m).free.rooms ≡ length es + length (view k).free.rooms
    pub sees : Sees (view m) (replicate tries (Load (name (view m))) ++ pushes_of (name (view m)) es) (view k)
    pub ends : EndsPushedAll es (IsTrue was_empty) (name (view m)) (view k).known.seen

  -- its first try failed, and the room's slot is in hand; or it pushed
  pub record FirstMissed (slots room : ℕ) (x : E) (m k : SeatState E) : Type 0 where
    pub ready : IsReady slots room x k
    pub sees : Sees (view m) (Load (name (view m)) ∷ []) (view k)
    pub overtaken : IsOvertaken (view k).known.seen

  pub record FirstPushed (slots : ℕ) (x : E) (was_empty : Bool) (m k : SeatState E) : Type 0 where
    pub rests : IsResting slots k
    pub sees : Sees (view m) (Load (name (view m)) ∷ Push (name (view m)) x ∷ []) (view k)
    pub ends : EndsPushed x (IsTrue was_empty) (name (view m)) (view k).known.seen

  -- a party that rested has tried to push into its first free room, whose link was `next`; and its try came to this
  pub record HasTried (slots room : ℕ) (x : E) (next : ℕ) (was_empty : Option Bool) (m k : SeatState E) : Type 0 where
    pub free : (view m).free ≡ with_first room (view k).free
    pub next_is : next ≡ leads (view k).free.rooms (view k).free.end
    pub answer : MatchOption was_empty (FirstMissed slots room x m k) (λ empty. FirstPushed slots x empty m k)

  -- the party has a batch to hand out, to which this word leads
  pub record HasTaken (slots at : ℕ) (m : SeatState E) : Type 0 where
    pub at_is : at ≡ start (to_hand_out (view m).doing)
    pub walks : IsWalking slots (to_hand_out (view m).doing) m

  -- it took it with one swap
  pub record TookAll (slots found : ℕ) (m k : SeatState E) : Type 0 where
    pub taken : HasTaken slots found k
    pub free : (view k).free ≡ (view m).free
    pub sees : Sees (view m) (Taken (name (view m)) (room_elements (to_hand_out (view k).doing)) ∷ []) (view k)

  -- all that it had to hand out is handed out
  pub record EmptiesHand (slots : ℕ) (m k : SeatState E) : Type 0 where
    pub rests : IsResting slots k
    pub known : (view k).known ≡ (view m).known
    pub free : length (view k).free.rooms
        ≡ length (view m).free.rooms + length (to_hand_out (view m).doing)

  -- ---- the pool
  -- it took the pool, in which so many rooms were, and sees all
  pub record Refills (slots n : ℕ) (m k : SeatState E) : Type 0 where
    pub rests : IsResting slots k
    pub free : length (view k).free.rooms ≡ length (view m).free.rooms + n
    pub sees : Sees (view m) [] (view k)
    pub all : (view m).known.share ≡ whole
        → length (held (plain (view k).known.seen)) + length (view k).free.rooms ≡ slots

  -- it gave the first n of its free rooms to the pool, or did nothing
  abbrev pub GivesBack : ℕ → Bool → SeatState E → SeatState E → Type 0
  GivesBack n true m k = k ≡ (record (view m) { free = rest_rooms n (view m).free }, hand m)
  GivesBack n false m k = k ≡ m

  -- it gave its free rooms after the first n to the pool, or did nothing
  abbrev pub GivesRest : ℕ → Bool → SeatState E → SeatState E → Type 0
  GivesRest n true m k = k ≡ (record (view m) { free = first_rooms n (view m).free }, hand m)
  GivesRest n false m k = k ≡ m

  -- a party with `had` rooms took the pool, and gave all of it but `most` rooms back if it could
  pub record RefillsTo (slots had most : ℕ) (could : Bool) (m k : SeatState E) : Type 0 where
    pub rests : IsResting slots k
    pub sees : Sees (view m) [] (view k)
    pub more : had ≤ length (view k).free.rooms
    pub few : could ≡ true → length (view k).free.rooms ≤ had + most
    pub sure : (view m).known.share ≡ whole → could ≡ true
    pub all : (view m).known.share ≡ whole → length (view k).free.rooms < had + most
        → length (held (plain (view k).known.seen)) + length (view k).free.rooms ≡ slots

  -- it took n rooms of the pool, and sees all
  pub record RefillsAtMost (slots most n : ℕ) (m k : SeatState E) : Type 0 where
    pub rests : IsResting slots k
    pub free : length (view k).free.rooms ≡ length (view m).free.rooms + n
    pub sees : Sees (view m) [] (view k)
    pub few : (view m).known.share ≡ whole → n ≤ most
    pub all : (view m).known.share ≡ whole → n < most
        → length (held (plain (view k).known.seen)) + length (view k).free.rooms ≡ slots

  -- ---- parties
  -- what a contract sees of a party with this seat
  abbrev pub standing : TableId → View E → PartyOf E
  standing z v = record { table = z; seen = v.known.seen; share = v.known.share; rooms = length v.free.rooms }

  -- the party is between two calls, has its free rooms, and has seen a legal history, a whole party with no event of
  -- another; and its names are a share
  pub record IsSeated (z : TableId) (m : SeatState E) (free : FreeRooms) : Type 0 where
    pub table : IsTable z
    pub rests : IsResting z.slots m
    pub tracks : Tracks free (view m).free
    pub legal : Legal (plain (view m).known.seen)
    pub alone : (view m).known.share ≡ whole → AllOwn (view m).known.seen
    pub share : IsShare (view m).known.share
