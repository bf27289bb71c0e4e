-- What each atomic step tells a party of a transfer stack: of its seat m before, of the word that it found, and of its
-- seat k after. A seat has a view, and the slots in hand, the last taken first.
use Rattle.std.specs.Prelude.{◌≡◌, ◌≢◌, ℕ, suc, ◌<◌, ◌≤◌, ◌+◌, List, [], ◌∷◌, ◌++◌, length}
use Rattle.cordyceps_shared.specs.FreeChains.{FreeChain, leads, with_last, first_rooms, rest_rooms, joined}
use Rattle.cordyceps_shared.specs.Histories.{plain}
use Rattle.cordyceps_shared.specs.Knowing.{Grown}
use Rattle.cordyceps_shared.specs.Pools.{Packs}
use Rattle.cordyceps_shared.specs.Shares.{Name, whole}
use Rattle.cordyceps_shared.specs.Slots.{Near}
use Rattle.cordyceps_stack.specs.History.{Event, Load, Push, Taken, held, Legal, actor}
use Rattle.cordyceps_stack.specs.Cores.Stages.{room_elements}
use Rattle.cordyceps_stack.specs.Shared.Calls.{EndsPushed, EndsPushedAll, EndsLooked, IsOvertaken, pushes_of}
use Rattle.cordyceps_stack.specs.Shared.Slots.{Hand, TableStep, SeatWith, view, hand, start, filled, vacant, rooms_of}
use Rattle.cordyceps_stack.specs.Shared.Slots.{in_use, in_use_to, all_vacant, last_link}
use Rattle.cordyceps_stack.specs.Shared.View.{Doing, Idle, Loaded, LoadedAll, Holding, Walking, View, name, taking}
use Rattle.cordyceps_stack.specs.Shared.View.{held_rooms, room_count}

abbrev pub SeatState : Type 0 → Type 0
SeatState E = SeatWith E (View E)

module _ {E : Type 0} where
  -- the party has seen more, with these events of its own
  abbrev pub Sees : View E → List (Event Name E) → View E → Type 0
  Sees v es w = Grown actor (λ h. Legal h) v.known es w.known

  -- what a party has yet to hand out
  abbrev pub to_hand_out : Doing E → List (ℕ × E)
  to_hand_out Idle = []
  to_hand_out (Loaded r read) = []
  to_hand_out (LoadedAll rooms read) = []
  to_hand_out (Holding rooms) = []
  to_hand_out (Walking xs) = xs

  -- ---- the steps on head
  -- a load by a party that looks whether nothing is held
  pub record HasLooked (read : ℕ) (m k : SeatState E) : Type 0 where
    pub doing : (view k).doing ≡ (view m).doing
    pub free : (view k).free ≡ (view m).free
    pub hand : hand k ≡ hand m
    pub sees : Sees (view m) (Load (name (view m)) ∷ []) (view k)
    pub ends : EndsLooked (read ≡ 0) (name (view m)) (view k).known.seen

  abbrev pub after_look : TableStep E → SeatState E → ℕ → SeatState E → Type 0
  after_look st m read k = HasLooked read m k

  -- a load by a party that begins to push: the slot of its first free room is in hand
  pub record IsBegun (slots r : ℕ) (rs : List ℕ) (read : ℕ) (m k : SeatState E) : Type 0 where
    pub doing : (view k).doing ≡ Loaded r read
    pub free : (view k).free ≡ record { rooms = rs; end = (view m).free.end }
    pub hand : hand k ≡ (r, vacant (leads rs (view m).free.end)) ∷ hand m
    pub inside : r < slots
    pub few : read ≤ slots
    pub sees : Sees (view m) (Load (name (view m)) ∷ []) (view k)

  abbrev pub after_begin : TableStep E → SeatState E → ℕ → SeatState E → Type 0
  after_begin st m read k = (r : ℕ) (rs : List ℕ) → (view m).free.rooms ≡ r ∷ rs → IsBegun st.slots r rs read m k

  -- a load by a party that tries again, and then does this
  pub record HasLoaded (slots read : ℕ) (does : Doing E) (m k : SeatState E) : Type 0 where
    pub doing : (view k).doing ≡ does
    pub free : (view k).free ≡ (view m).free
    pub hand : hand k ≡ hand m
    pub few : read ≤ slots
    pub sees : Sees (view m) (Load (name (view m)) ∷ []) (view k)

  abbrev pub after_load : TableStep E → SeatState E → ℕ → SeatState E → Type 0
  after_load st m read k = (r : ℕ) → (view m).doing ≡ Holding (r ∷ []) → HasLoaded st.slots read (Loaded r read) m k

  -- a compare-exchange: it pushed what is in the slot in hand, which goes back, or another came between
  pub record HasHit (x : E) (found : ℕ) (m k : SeatState E) : Type 0 where
    pub doing : (view k).doing ≡ Idle
    pub free : (view k).free ≡ (view m).free
    pub hand : hand k ≡ []
    pub sees : Sees (view m) (Push (name (view m)) x ∷ []) (view k)
    pub ends : EndsPushed x (found ≡ 0) (name (view m)) (view k).known.seen

  pub record HasFailed (r : ℕ) (m k : SeatState E) : Type 0 where
    pub doing : (view k).doing ≡ Holding (r ∷ [])
    pub free : (view k).free ≡ (view m).free
    pub hand : hand k ≡ hand m
    pub sees : Sees (view m) [] (view k)
    pub overtaken : IsOvertaken (view k).known.seen

  abbrev pub after_exchange : TableStep E → SeatState E → ℕ → SeatState E → Type 0
  after_exchange st m found k = (r read : ℕ) (x : E) → (view m).doing ≡ Loaded r read
      → hand m ≡ (r, filled x read) ∷ []
      → (found ≡ read → HasHit x found m k) × (found ≢ read → HasFailed r m k)

  -- a load by a party that has the slots of several rooms in hand, and pushes with all of them
  abbrev pub after_load_all : TableStep E → SeatState E → ℕ → SeatState E → Type 0
  after_load_all st m read k = HasLoaded st.slots read (LoadedAll (held_rooms (view m).doing) read) m k

  -- rooms in use before one more; all of these rooms; and the elements in them
  abbrev pub all_then : List (ℕ × E) → ℕ → E → List (ℕ × E)
  all_then before r x = before ++ (r, x) ∷ []

  abbrev pub rooms_then : List (ℕ × E) → ℕ → List ℕ
  rooms_then before r = rooms_of before ++ r ∷ []

  abbrev pub elements_then : List (ℕ × E) → E → List E
  elements_then before x = room_elements before ++ x ∷ []

  -- the slots of these rooms and of the one more, which is the first in hand and has this link
  abbrev pub chain_then : List (ℕ × E) → ℕ → E → ℕ → Hand E
  chain_then before r x link = (r, filled x link) ∷ in_use_to before (suc r)

  -- a compare-exchange: it pushed what is in the slots in hand, which go back, or another came between
  pub record HasHitAll (es : List E) (found : ℕ) (m k : SeatState E) : Type 0 where
    pub doing : (view k).doing ≡ Idle
    pub free : (view k).free ≡ (view m).free
    pub hand : hand k ≡ []
    pub sees : Sees (view m) (pushes_of (name (view m)) es) (view k)
    pub ends : EndsPushedAll es (found ≡ 0) (name (view m)) (view k).known.seen

  pub record HasFailedAll (slots : ℕ) (xs : List (ℕ × E)) (m k : SeatState E) : Type 0 where
    pub doing : (view k).doing ≡ Walking xs
    pub few : length xs ≤ slots
    pub free : (view k).free ≡ (view m).free
    pub hand : hand k ≡ hand m
    pub sees : Sees (view m) [] (view k)
    pub overtaken : IsOvertaken (view k).known.seen

  abbrev pub after_exchange_all : TableStep E → SeatState E → ℕ → SeatState E → Type 0
  after_exchange_all st m found k = (before : List (ℕ × E)) (r : ℕ) (x : E) (read : ℕ)
      → (view m).doing ≡ LoadedAll (rooms_then before r) read → hand m ≡ chain_then before r x read
      → (found ≡ read → HasHitAll (elements_then before x) found m k)
      × (found ≢ read → HasFailedAll st.slots (all_then before r x) m k)

  -- the chain's rooms are of a table with that many slots
  abbrev pub NearChain : ℕ → List (ℕ × E) → Type 0
  NearChain slots xs = Near slots (rooms_of xs)

  -- a swap: the slots of all that was held are in hand
  pub record HasSwapped (slots found : ℕ) (m k : SeatState E) : Type 0 where
    pub chain : List (ℕ × E)
    pub found_is : found ≡ start chain
    pub doing : (view k).doing ≡ taking chain
    pub free : (view k).free ≡ (view m).free
    pub hand : hand k ≡ in_use chain ++ hand m
    pub near : NearChain slots chain
    pub few : length chain ≤ slots
    pub sees : Sees (view m) (Taken (name (view m)) (room_elements chain) ∷ []) (view k)

  abbrev pub after_take : TableStep E → SeatState E → ℕ → SeatState E → Type 0
  after_take st m found k = (view m).doing ≡ Idle → HasSwapped st.slots found m k

  -- ---- the steps on the quiet word
  -- the slots of the first n free rooms are in hand
  abbrev pub after_hold : ℕ → TableStep E → SeatState E → ℕ → SeatState E → Type 0
  after_hold n st m found k =
      let first = first_rooms n (view m).free in
      (view k ≡ record (view m) { doing = Holding first.rooms; free = rest_rooms n (view m).free })
      × (hand k ≡ all_vacant first.rooms first.end ++ hand m)

  -- the slot of the last free room is in hand
  abbrev pub after_hold_last : TableStep E → SeatState E → ℕ → SeatState E → Type 0
  after_hold_last st m found k = (before : List ℕ) (r : ℕ) → (view m).free.rooms ≡ before ++ r ∷ []
      → (view k ≡ record (view m) { doing = Holding (r ∷ []); free = record { rooms = before; end = suc r } })
      × (hand k ≡ (r, vacant (view m).free.end) ∷ hand m)

  -- the free chain of the rooms in hand
  abbrev pub chain_in_hand : SeatState E → FreeChain
  chain_in_hand m = record { rooms = held_rooms (view m).doing; end = last_link (hand m) }

  -- all slots in hand, which are those of a free chain that leads to the free rooms, go back to be before these
  pub record HasReturned (slots : ℕ) (m k : SeatState E) : Type 0 where
    pub view_is : view k ≡ record (view m) { doing = Idle; free = joined (chain_in_hand m) (view m).free }
    pub hand : hand k ≡ []
    pub few : length (view k).free.rooms ≤ slots

  abbrev pub after_return : TableStep E → SeatState E → ℕ → SeatState E → Type 0
  after_return st m found k = HasReturned st.slots m k

  -- the slot in hand, to which the free rooms lead, goes back to be after these
  abbrev pub after_append : TableStep E → SeatState E → ℕ → SeatState E → Type 0
  after_append st m found k = (r link : ℕ) → (view m).doing ≡ Holding (r ∷ []) → hand m ≡ (r, vacant link) ∷ []
      → (view k ≡ record (view m) { doing = Idle; free = with_last r link (view m).free }) × (hand k ≡ [])

  -- ---- the steps on the pool's word
  -- the slots of the rooms that were in the pool are in hand, the last one's first
  pub record HasRefilled (slots found : ℕ) (m k : SeatState E) : Type 0 where
    pub before : List ℕ
    pub last : ℕ
    pub end : ℕ
    pub packs : Packs found record { rooms = before ++ last ∷ []; end = end }
    pub doing : (view k).doing ≡ Holding (before ++ last ∷ [])
    pub free : (view k).free ≡ (view m).free
    pub hand : hand k ≡ (last, vacant end) ∷ all_vacant before (suc last) ++ hand m
    pub near : Near slots (before ++ last ∷ [])

  pub record HasFoundNone (m k : SeatState E) : Type 0 where
    pub doing : (view k).doing ≡ Idle
    pub free : (view k).free ≡ (view m).free
    pub hand : hand k ≡ hand m

  -- a swap: the party takes the pool, and sees all. Each room is then with a whole party, or holds an element
  pub record FindsPool (slots found : ℕ) (m k : SeatState E) : Type 0 where
    pub none : found ≡ 0 → HasFoundNone m k
    pub some_of : found ≢ 0 → HasRefilled slots found m k
    pub sees : Sees (view m) [] (view k)
    pub all : (view m).known.share ≡ whole → length (held (plain (view k).known.seen)) + room_count (view k) ≡ slots

  abbrev pub after_refill : TableStep E → SeatState E → ℕ → SeatState E → Type 0
  after_refill st m found k = FindsPool st.slots found m k

  -- a whole party knows that some rooms are neither its own nor in use: they are in the pool
  abbrev pub LacksRooms : ℕ → SeatState E → Type 0
  LacksRooms slots m =
      (view m).known.share ≡ whole → length (held (plain (view m).known.seen)) + room_count (view m) < slots

  -- a load: the party has at most as many rooms as there are
  pub record HasGlanced (slots found : ℕ) (m k : SeatState E) : Type 0 where
    pub same : k ≡ m
    pub few : length (view m).free.rooms ≤ slots
    pub lacks : found ≢ 0 → LacksRooms slots m

  abbrev pub after_glance : TableStep E → SeatState E → ℕ → SeatState E → Type 0
  after_glance st m found k = HasGlanced st.slots found m k

  -- a compare-exchange: the first n free rooms are the pool, or other rooms are
  abbrev pub after_give_back : ℕ → TableStep E → SeatState E → ℕ → SeatState E → Type 0
  after_give_back n st m found k =
      (found ≡ 0 → (view k ≡ record (view m) { free = rest_rooms n (view m).free }) × (hand k ≡ hand m))
      × (found ≢ 0 → (k ≡ m) × LacksRooms st.slots m)

  -- a compare-exchange: the free rooms after the first n are the pool, or other rooms are
  abbrev pub after_give_rest : ℕ → TableStep E → SeatState E → ℕ → SeatState E → Type 0
  after_give_rest n st m found k =
      (found ≡ 0 → (view k ≡ record (view m) { free = first_rooms n (view m).free }) × (hand k ≡ hand m))
      × (found ≢ 0 → (k ≡ m) × LacksRooms st.slots m)

  -- ---- between the steps
  -- the party is between two calls
  pub record IsResting (slots : ℕ) (m : SeatState E) : Type 0 where
    pub idle : (view m).doing ≡ Idle
    pub empty : hand m ≡ []
    pub named : (view m).known.share ≢ []
    pub near : Near slots (view m).free.rooms

  -- the party pushes what is in the slot in hand, which is this room's
  pub record IsReady (slots room : ℕ) (x : E) (m : SeatState E) : Type 0 where
    pub doing : (view m).doing ≡ Holding (room ∷ [])
    pub link : ℕ
    pub hand : hand m ≡ (room, filled x link) ∷ []
    pub named : (view m).known.share ≢ []
    pub near : Near slots (view m).free.rooms
    pub inside : room < slots

  -- the party pushes what is in the slots in hand, which are those of these rooms. This word leads to the first
  pub record IsReadyAll (slots first : ℕ) (before : List (ℕ × E)) (last : ℕ) (x : E) (m : SeatState E) : Type 0 where
    pub rooms : held_rooms (view m).doing ≡ rooms_then before last
    pub link : ℕ
    pub hand : hand m ≡ chain_then before last x link
    pub first_is : first ≡ leads (rooms_of before) (suc last)
    pub named : (view m).known.share ≢ []
    pub near : Near slots (view m).free.rooms
    pub inside : Near slots (rooms_then before last)

  -- the party has these rooms to hand out, and their slots in hand
  pub record IsWalking (slots : ℕ) (xs : List (ℕ × E)) (m : SeatState E) : Type 0 where
    pub doing : (view m).doing ≡ taking xs
    pub hand : hand m ≡ in_use xs
    pub chain : NearChain slots xs
    pub few : length xs ≤ slots
    pub named : (view m).known.share ≢ []
    pub near : Near slots (view m).free.rooms
