-- What each atomic step tells a party of a queue: of its seat m before, of the word that it found, and of its seat k
-- after. A seat has a view, and the slots in hand, the last taken first.
use Rattle.std.specs.Prelude.{◌≡◌, ◌≢◌, ℕ, suc, ◌+◌, ◌<◌, ◌≤◌, List, [], ◌∷◌, ◌++◌, reverse, length, drop, Option}
use Rattle.std.specs.Prelude.{Some, None}
use Rattle.cordyceps_shared.specs.FreeChains.{leads, end_after, MayJoin}
use Rattle.cordyceps_shared.specs.Histories.{plain}
use Rattle.cordyceps_shared.specs.Knowing.{Grown}
use Rattle.cordyceps_shared.specs.Pools.{LeadsTo}
use Rattle.cordyceps_shared.specs.Shares.{Name, whole}
use Rattle.cordyceps_shared.specs.declared.layout.TheConstants.{LINKS}
use Rattle.cordyceps_queue.specs.declared.cores.stage.Stage.{Stage}
use Rattle.cordyceps_queue.specs.declared.cores.stage.Stage.TheVariants.{Rest, Cleared, Swapped, Holding, StubNull}
use Rattle.cordyceps_queue.specs.declared.cores.stage.Stage.TheVariants.{Second, Null, PutClear, PutSwap, PutLink}
use Rattle.cordyceps_queue.specs.declared.cores.stage.Stage.TheVariants.{PutRead}
use Rattle.cordyceps_queue.specs.History.{Event, held, actor}
use Rattle.cordyceps_queue.specs.Past.{IsLegalReversed, WasBlockedReversed}
use Rattle.cordyceps_shared.specs.Slots.{Hand, Near, TableStep, SeatWith, view, hand}
use Rattle.cordyceps_queue.specs.Shared.View.{View, name, free_chain, back_chain, view_returned, with_first_rooms, room_count}

abbrev pub SeatState : Type 0 → Type 0
SeatState E = SeatWith E (View E)

module _ {E : Type 0} where
  abbrev pub LegalReversed : List (Event Name E) → Type 0
  LegalReversed es = IsLegalReversed (reverse es)

  -- the party has seen more, in which its own events are these
  abbrev pub Sees : View E → List (Event Name E) → View E → Type 0
  Sees v es w = Grown actor LegalReversed v.known es w.known

  -- the party is between two calls
  pub record IsResting (slots : ℕ) (m : SeatState E) : Type 0 where
    pub stage : (view m).stage ≡ Rest
    pub back : (view m).back ≡ []
    pub hand : hand m ≡ []
    pub named : (view m).known.share ≢ []
    pub near : Near slots (view m).free

  -- a load of the link of the first free room: a use of the room begins for this element, and its slot is in hand
  pub record HasBegun (slots r : ℕ) (rs : List ℕ) (e : E) (found : ℕ) (m k : SeatState E) : Type 0 where
    pub stage : (view k).stage ≡ Cleared r
    pub item : (view k).item ≡ Some e
    pub free : (view k).free ≡ rs
    pub back : (view k).back ≡ (view m).back
    pub hand : hand k ≡ (r, None) ∷ hand m
    pub near : r < slots
    pub sees : Sees (view m) [] (view k)
    pub end : (view k).end ≡ (view m).end
    pub next_is : found ≡ leads rs (view m).end

  abbrev pub after_begin_for : Option E → ℕ → SeatState E → ℕ → SeatState E → Type 0
  after_begin_for item slots m found k = (r : ℕ) (rs : List ℕ) (e : E) → (view m).free ≡ r ∷ rs → item ≡ Some e
      → HasBegun slots r rs e found m k

  abbrev pub after_begin : Option E → TableStep E → SeatState E → ℕ → SeatState E → Type 0
  after_begin item st m found k = after_begin_for item st.slots m found k

  -- a swap of the head: the room of this use is the head, and its slot, which has the element, goes back
  pub record HasSwapped (slots r : ℕ) (e : E) (cs : Hand E) (found : ℕ) (m k : SeatState E) : Type 0 where
    pub stage : (view k).stage ≡ Swapped r found
    pub free : (view k).free ≡ (view m).free
    pub back : (view k).back ≡ (view m).back
    pub hand : hand k ≡ cs
    pub near : found < slots
    pub sees : Sees (view m) (Event.Swap (name (view m)) e ∷ []) (view k)
    pub end : (view k).end ≡ (view m).end

  abbrev pub after_swap : TableStep E → SeatState E → ℕ → SeatState E → Type 0
  after_swap st m found k =
      (r : ℕ) (e : E) (cs : Hand E) → (view m).stage ≡ Cleared r → (view m).item ≡ Some e
      → hand m ≡ (r, Some e) ∷ cs → HasSwapped st.slots r e cs found m k

  -- a store by which the old head leads to that room
  pub record HasLinked (m k : SeatState E) : Type 0 where
    pub stage : (view k).stage ≡ Rest
    pub free : (view k).free ≡ (view m).free
    pub back : (view k).back ≡ (view m).back
    pub hand : hand k ≡ hand m
    pub sees : Sees (view m) (Event.Link (name (view m)) ∷ []) (view k)
    pub end : (view k).end ≡ (view m).end

  abbrev pub after_link : TableStep E → SeatState E → ℕ → SeatState E → Type 0
  after_link st m n k = (r old : ℕ) → (view m).stage ≡ Swapped r old → HasLinked m k

  -- the slots in hand, of rooms that are to be given back
  abbrev pub carry : List ℕ → Hand E
  carry [] = []
  carry (b ∷ bs) = (b, None) ∷ carry bs

  -- the party has the right, its tail is t, and it has in hand the emptied slot of what it handed out last, if any. The
  -- last free room may not be linked to the room of that slot yet
  pub record Holds (slots t : ℕ) (m : SeatState E) : Type 0 where
    pub stage : (view m).stage ≡ Holding t
    pub carries : hand m ≡ carry (view m).back
    pub named : (view m).known.share ≢ []
    pub near : Near slots ((view m).free ++ (view m).back)
    pub inside : t < slots

  -- the same, and the last free room is linked to it
  pub record IsHolding (slots t : ℕ) (m : SeatState E) : Type 0 where
    pub right : Holds slots t m
    pub joins : MayJoin (free_chain (view m)) (back_chain (view m))

  -- the slot is given back, and the party is at this stage
  pub record MovesTo (es : List (Event Name E)) (next : Stage) (m k : SeatState E) : Type 0 where
    pub stage : (view k).stage ≡ next
    pub back : (view k).back ≡ []
    pub free : (view k).free ≡ (view m).free ++ (view m).back
    pub hand : hand k ≡ []
    pub sees : Sees (view m) es (view k)
    pub end : (view k).end ≡ end_after (view m).end (view m).back (view m).to

  -- the tail's element is handed out
  pub record HandsOut (before : List (Event Name E)) (slots t r : ℕ) (m k : SeatState E) : Type 0 where
    pub element : E
    pub stage : (view k).stage ≡ Holding r
    pub back : (view k).back ≡ t ∷ []
    pub free : (view k).free ≡ (view m).free ++ (view m).back
    pub hand : hand k ≡ (t, Some element) ∷ []
    pub near : t < slots
    pub inside : r < slots
    pub sees : Sees (view m) (before ++ Event.Out (name (view m)) element ∷ []) (view k)
    pub few : length (view k).free ≤ slots
    pub end : (view k).end ≡ end_after (view m).end (view m).back (view m).to
    pub to : (view k).to ≡ suc r

  -- the same, and the party holds on with the emptied slot in hand
  pub record HandsOneOut (before : List (Event Name E)) (slots t r : ℕ) (e : E) (m k : SeatState E) : Type 0 where
    pub right : Holds slots r k
    pub back : (view k).back ≡ t ∷ []
    pub free : (view k).free ≡ (view m).free ++ (view m).back
    pub sees : Sees (view m) (before ++ Event.Out (name (view m)) e ∷ []) (view k)
    pub few : length (view k).free ≤ slots
    pub to : (view k).to ≡ suc r

  -- some prefix that contains the party's last look is blocked
  abbrev pub Blocked : View E → Type 0
  Blocked v = WasBlockedReversed (name v) (reverse (plain v.known.seen))

  -- the party is at this stage, with no slot in hand
  pub record IsAtStage (slots : ℕ) (now : Stage) (m : SeatState E) : Type 0 where
    pub stage : (view m).stage ≡ now
    pub back : (view m).back ≡ []
    pub hand : hand m ≡ []
    pub named : (view m).known.share ≢ []
    pub near : Near slots (view m).free

  -- a store that links the last free room to the room in hand
  abbrev pub after_tie : TableStep E → SeatState E → ℕ → SeatState E → Type 0
  after_tie st m n k = (view k ≡ record (view m) { end = n }) × (hand k ≡ hand m)

  -- a read of the link of a free room
  abbrev pub after_skip : TableStep E → SeatState E → ℕ → SeatState E → Type 0
  after_skip st m found k = (before after : List ℕ) (r : ℕ) → (view m).free ≡ before ++ r ∷ after
      → st.word ≡ LINKS + r
      → (k ≡ m) × (found ≡ leads after (view m).end)

  abbrev pub after_take : TableStep E → SeatState E → ℕ → SeatState E → Type 0
  after_take st m found k = (view m).stage ≡ Rest
      → (found ≡ 0 → MovesTo (Event.Busy (name (view m)) ∷ []) Rest m k)
      × ((t : ℕ) → found ≡ suc t → MovesTo (Event.Take (name (view m)) ∷ []) (Holding t) m k × (t < st.slots))

  -- the stub's link led to this room, which is then the tail
  pub record PassesStub (slots r : ℕ) (m k : SeatState E) : Type 0 where
    pub moves : MovesTo (Event.Look (name (view m)) ∷ []) (Second r) m k
    pub near : r < slots
    pub real : r ≢ 0

  -- the first read of a try, of the stub's link
  abbrev pub after_look_stub : TableStep E → SeatState E → ℕ → SeatState E → Type 0
  after_look_stub st m found k = (view m).stage ≡ Holding 0
      → (found ≡ 0 → MovesTo (Event.Look (name (view m)) ∷ []) StubNull m k)
      × ((r : ℕ) → found ≡ suc r → PassesStub st.slots r m k)

  -- the first read of a try, of another tail's link
  abbrev pub after_look : TableStep E → SeatState E → ℕ → SeatState E → Type 0
  after_look st m found k = (t : ℕ) → (view m).stage ≡ Holding t → t ≢ 0
      → (found ≡ 0 → MovesTo (Event.Look (name (view m)) ∷ []) (Null t) m k)
      × ((r : ℕ) → found ≡ suc r → HandsOut (Event.Look (name (view m)) ∷ []) st.slots t r m k)

  -- the read after the stub was passed
  abbrev pub after_read : TableStep E → SeatState E → ℕ → SeatState E → Type 0
  after_read st m found k = (t : ℕ) → (view m).stage ≡ Second t
      → (found ≡ 0 → MovesTo [] (Null t) m k)
      × ((r : ℕ) → found ≡ suc r → HandsOut [] st.slots t r m k)

  -- the read after the stub was put in
  abbrev pub after_reread : TableStep E → SeatState E → ℕ → SeatState E → Type 0
  after_reread st m found k = (t : ℕ) → (view m).stage ≡ PutRead t
      → (found ≡ 0 → MovesTo [] (Holding t) m k × Blocked (view k))
      × ((r : ℕ) → found ≡ suc r → HandsOut [] st.slots t r m k)

  -- the read of head after a null link of the stub
  abbrev pub after_head_stub : TableStep E → SeatState E → ℕ → SeatState E → Type 0
  after_head_stub st m found k = (view m).stage ≡ StubNull
      → (found ≡ 0 → MovesTo (Event.Empty (name (view m)) ∷ []) (Holding 0) m k)
      × (found ≢ 0 → MovesTo [] (Holding 0) m k × Blocked (view k))

  -- the read of head after a null link of another tail
  abbrev pub after_head : TableStep E → SeatState E → ℕ → SeatState E → Type 0
  after_head st m found k = (t : ℕ) → (view m).stage ≡ Null t
      → (found ≡ t → MovesTo [] (PutClear t) m k)
      × (found ≢ t → MovesTo [] (Holding t) m k × Blocked (view k))

  -- the stub is put in: its link becomes null, it becomes the head, and the old head is linked to it
  abbrev pub after_begin_stub : TableStep E → SeatState E → ℕ → SeatState E → Type 0
  after_begin_stub st m n k = (t : ℕ) → (view m).stage ≡ PutClear t → MovesTo [] (PutSwap t) m k

  abbrev pub after_swap_stub : TableStep E → SeatState E → ℕ → SeatState E → Type 0
  after_swap_stub st m found k = (t : ℕ) → (view m).stage ≡ PutSwap t
      → MovesTo [] (PutLink t found) m k × (found < st.slots)

  abbrev pub after_link_stub : TableStep E → SeatState E → ℕ → SeatState E → Type 0
  after_link_stub st m n k = (t old : ℕ) → (view m).stage ≡ PutLink t old → MovesTo [] (PutRead t) m k

  abbrev pub after_give : TableStep E → SeatState E → ℕ → SeatState E → Type 0
  after_give st m n k = (t : ℕ) → (view m).stage ≡ Holding t → MovesTo (Event.Free (name (view m)) ∷ []) Rest m k

  -- ---- the steps on the pool's word
  -- a swap: the party takes the pool's rooms, whose slots are in hand, and sees all. Each room but the stub's is then
  -- with a whole party, or has an element in it
  pub record FindsPool (slots found : ℕ) (m k : SeatState E) : Type 0 where
    pub leads : LeadsTo found (back_chain (view k))
    pub stage : (view k).stage ≡ Rest
    pub free : free_chain (view k) ≡ free_chain (view m)
    pub hand : hand k ≡ carry (view k).back
    pub near : Near slots (view k).back
    pub few : length ((view k).free ++ (view k).back) ≤ slots
    pub sees : Sees (view m) [] (view k)
    pub all : (view m).known.share ≡ whole
        → suc (length (held (plain (view k).known.seen)) + room_count (view k)) ≡ slots

  abbrev pub after_refill : TableStep E → SeatState E → ℕ → SeatState E → Type 0
  after_refill st m found k = FindsPool st.slots found m k

  -- a whole party knows that some rooms are neither its own nor in use: they are in the pool
  abbrev pub LacksRooms : ℕ → SeatState E → Type 0
  LacksRooms slots m = (view m).known.share ≡ whole
      → suc (length (held (plain (view m).known.seen)) + room_count (view m)) < slots

  -- a load: all slots in hand are given back
  pub record HasGlanced (slots found : ℕ) (m k : SeatState E) : Type 0 where
    pub view_is : view k ≡ view_returned (view m)
    pub hand : hand k ≡ []
    pub few : length ((view m).free ++ (view m).back) ≤ slots
    pub lacks : found ≢ 0 → LacksRooms slots m

  abbrev pub after_glance : TableStep E → SeatState E → ℕ → SeatState E → Type 0
  after_glance st m found k = HasGlanced st.slots found m k

  -- a compare-exchange: the first n free rooms are the pool, or other rooms are
  abbrev pub after_give_back : ℕ → TableStep E → SeatState E → ℕ → SeatState E → Type 0
  after_give_back n st m found k =
      (found ≡ 0 → (view k ≡ record (view m) { free = drop n (view m).free }) × (hand k ≡ hand m))
      × (found ≢ 0 → (k ≡ m) × LacksRooms st.slots m)

  -- a compare-exchange: the free rooms after the first n are the pool, or other rooms are
  abbrev pub after_give_rest : ℕ → TableStep E → SeatState E → ℕ → SeatState E → Type 0
  after_give_rest n st m found k =
      (found ≡ 0 → (view k ≡ with_first_rooms n (view m)) × (hand k ≡ hand m))
      × (found ≢ 0 → (k ≡ m) × LacksRooms st.slots m)
