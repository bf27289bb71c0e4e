-- What each atomic step tells a party of a queue, of the words with the bits of the uses: it tells of the plain word
-- what Plays says, and the bits of the rooms that the party acts on.
use Rattle.std.specs.Prelude.{◌≡◌, ◌≢◌, ℕ, suc, ◌+◌, ◌*◌, ◌-◌, List, [], ◌∷◌, ◌++◌, Option}
use Rattle.cordyceps_shared.specs.FreeChains.{leads}
use Rattle.cordyceps_shared.specs.Slots.{TableStep, view, hand}
use Rattle.cordyceps_shared.specs.declared.layout.TheConstants.{LINKS}
use Rattle.cordyceps_queue.specs.declared.cores.stage.Stage.TheVariants.{Holding, Second, PutRead}
use Rattle.cordyceps_queue.specs.declared.shared.uses.RoomUse.{RoomUse}
use Rattle.cordyceps_queue.specs.Shared.Bits.{IsBit, IsLink, IsFreeLink, IsRead, Knows}
use Rattle.cordyceps_queue.specs.Shared.Plays.{SeatState}
use Rattle.cordyceps_queue.specs.Shared.Plays as plain
use Rattle.cordyceps_queue.specs.Shared.View.{bit_of, view_returned}

module _ {E : Type 0} where
  -- the party knows the bit of this use of a room
  abbrev pub HasUse : SeatState E → RoomUse → Type 0
  HasUse m u = (bit_of (view m).bits u.room ≡ u.bit) × IsBit u.bit

  -- it knows the bits that it knew
  abbrev pub KeepsBits : SeatState E → SeatState E → Type 0
  KeepsBits m k = (r : ℕ) → Knows (view m).stage r → bit_of (view k).bits r ≡ bit_of (view m).bits r

  -- a word that leads to a use of a room: the room, and the bit, which the party then knows
  pub record Finds (found : ℕ) (k : SeatState E) (tells : ℕ → Type 0) : Type 0 where
    pub room : ℕ
    pub bit : ℕ
    pub found_is : found ≡ 2 * room + bit
    pub is_bit : IsBit bit
    pub knows : bit_of (view k).bits room ≡ bit
    pub told : tells room

  -- a link that is read by a party that knows the bit of room t
  pub record Reads (t : ℕ) (m : SeatState E) (found : ℕ) (k : SeatState E) (tells : ℕ → Type 0) : Type 0 where
    pub next : ℕ
    pub to : ℕ
    pub read : IsRead (bit_of (view m).bits t) found next to
    pub knows : (r : ℕ) → next ≡ suc r → bit_of (view k).bits r ≡ to
    pub told : tells next

  -- a load of a free room's link, by which a use of the room begins, whose bit the party then knows
  pub record Begins (item : Option E) (st : TableStep E) (m : SeatState E) (found : ℕ) (k : SeatState E) : Type 0 where
    pub next : ℕ
    pub to : ℕ
    pub bit : ℕ
    pub link : IsLink found next to bit
    pub knows : (r : ℕ) (rs : List ℕ) → (view m).free ≡ r ∷ rs → bit_of (view k).bits r ≡ 1 - bit
    pub told : plain.after_begin item st m next k

  abbrev pub after_begin : Option E → TableStep E → SeatState E → ℕ → SeatState E → Type 0
  after_begin item st m found k = Begins item st m found k

  abbrev pub after_swap : TableStep E → SeatState E → ℕ → SeatState E → Type 0
  after_swap st m found k = KeepsBits m k × Finds found k (λ old. plain.after_swap st m old k)

  abbrev pub after_link : TableStep E → SeatState E → ℕ → SeatState E → Type 0
  after_link st m n k = plain.after_link st m n k

  abbrev pub after_tie : TableStep E → SeatState E → ℕ → SeatState E → Type 0
  after_tie st m n k = (at : ℕ) → n ≡ 4 * at → plain.after_tie st m at k

  abbrev pub after_skip : TableStep E → SeatState E → ℕ → SeatState E → Type 0
  after_skip st m found k = (before after : List ℕ) (r : ℕ) → (view m).free ≡ before ++ r ∷ after
      → st.word ≡ LINKS + r
      → (k ≡ m) × IsFreeLink found (leads after (view m).end)

  -- a swap of the right: 0, or 1 more than the tail, whose bit the party then knows
  pub record FindsRight (st : TableStep E) (m : SeatState E) (found : ℕ) (k : SeatState E) : Type 0 where
    pub right : ℕ
    pub bit : ℕ
    pub found_is : found ≡ 2 * right + bit
    pub is_bit : IsBit bit
    pub knows : (t : ℕ) → right ≡ suc t → bit_of (view k).bits t ≡ bit
    pub told : plain.after_take st m right k

  abbrev pub after_take : TableStep E → SeatState E → ℕ → SeatState E → Type 0
  after_take st m found k = FindsRight st m found k

  abbrev pub after_look_stub : TableStep E → SeatState E → ℕ → SeatState E → Type 0
  after_look_stub st m found k =
      KeepsBits m k × ((view m).stage ≡ Holding 0 → Reads 0 m found k (λ next. plain.after_look_stub st m next k))

  abbrev pub after_look : TableStep E → SeatState E → ℕ → SeatState E → Type 0
  after_look st m found k =
      KeepsBits m k
      × ((t : ℕ) → (view m).stage ≡ Holding t → t ≢ 0 → Reads t m found k (λ next. plain.after_look st m next k))

  abbrev pub after_read : TableStep E → SeatState E → ℕ → SeatState E → Type 0
  after_read st m found k =
      KeepsBits m k × ((t : ℕ) → (view m).stage ≡ Second t → Reads t m found k (λ next. plain.after_read st m next k))

  abbrev pub after_reread : TableStep E → SeatState E → ℕ → SeatState E → Type 0
  after_reread st m found k =
      KeepsBits m k
      × ((t : ℕ) → (view m).stage ≡ PutRead t → Reads t m found k (λ next. plain.after_reread st m next k))

  abbrev pub after_head_stub : TableStep E → SeatState E → ℕ → SeatState E → Type 0
  after_head_stub st m found k = KeepsBits m k × Finds found k (λ head. plain.after_head_stub st m head k)

  abbrev pub after_head : TableStep E → SeatState E → ℕ → SeatState E → Type 0
  after_head st m found k = KeepsBits m k × Finds found k (λ head. plain.after_head st m head k)

  -- a load of the stub's link, by which a use of the stub's room begins, whose bit the party then knows
  pub record BeginsStub (st : TableStep E) (m : SeatState E) (found : ℕ) (k : SeatState E) : Type 0 where
    pub next : ℕ
    pub to : ℕ
    pub bit : ℕ
    pub link : IsLink found next to bit
    pub knows : bit_of (view k).bits 0 ≡ 1 - bit
    pub told : plain.after_begin_stub st m 0 k

  abbrev pub after_begin_stub : TableStep E → SeatState E → ℕ → SeatState E → Type 0
  after_begin_stub st m found k = KeepsBits m k × BeginsStub st m found k

  abbrev pub after_swap_stub : TableStep E → SeatState E → ℕ → SeatState E → Type 0
  after_swap_stub st m found k = KeepsBits m k × Finds found k (λ old. plain.after_swap_stub st m old k)

  abbrev pub after_link_stub : TableStep E → SeatState E → ℕ → SeatState E → Type 0
  after_link_stub st m n k = KeepsBits m k × plain.after_link_stub st m n k

  abbrev pub after_give : TableStep E → SeatState E → ℕ → SeatState E → Type 0
  after_give st m n k = plain.after_give st m n k

  -- ---- the steps on the pool
  -- a load of the link of the last room that the party took there: all slots in hand are given back
  pub record HasGathered (found : ℕ) (m k : SeatState E) : Type 0 where
    pub view_is : view k ≡ view_returned (view m)
    pub hand : hand k ≡ []
    pub link : IsFreeLink found (view m).to

  abbrev pub after_gather : TableStep E → SeatState E → ℕ → SeatState E → Type 0
  after_gather st m found k = (before : List ℕ) (r : ℕ) → (view m).back ≡ before ++ r ∷ [] → st.word ≡ LINKS + r
      → HasGathered found m k

  abbrev pub after_refill : TableStep E → SeatState E → ℕ → SeatState E → Type 0
  after_refill st m found k = plain.after_refill st m found k

  abbrev pub after_glance : TableStep E → SeatState E → ℕ → SeatState E → Type 0
  after_glance st m found k = plain.after_glance st m found k

  abbrev pub after_give_back : ℕ → TableStep E → SeatState E → ℕ → SeatState E → Type 0
  after_give_back n st m found k = plain.after_give_back n st m found k

  abbrev pub after_give_rest : ℕ → TableStep E → SeatState E → ℕ → SeatState E → Type 0
  after_give_rest n st m found k = plain.after_give_rest n st m found k
