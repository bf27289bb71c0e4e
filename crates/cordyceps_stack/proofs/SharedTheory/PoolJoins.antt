-- What the parts of a refill come to together, and of giving rooms back to the pool.
use Rattle.std.proofs.Common.{◌≡◌, ◌≢◌, ℕ, zero, suc, ◌+◌, ◌-◌, ◌≤◌, ◌<◌, List, [], ◌∷◌, ◌++◌, length, take, drop, Bool, true, false, refl, sym, ap, ◌∙◌, subst, arith, append-nil, length-append}
use Rattle.std.proofs.lemmas.List.{length-take-le}
use Rattle.atomic_table.specs.Table.{turned}
use Rattle.cordyceps_shared.specs.FreeChains.{FreeChain, Tracks, joined, MayJoin}
use Rattle.cordyceps_shared.specs.Histories.{plain}
use Rattle.cordyceps_shared.specs.Knowing.{Known, Grown}
use Rattle.cordyceps_shared.specs.Pools.{packed, Fits}
use Rattle.cordyceps_shared.specs.Shares.{Name, whole}
use Rattle.cordyceps_shared.specs.Slots.{Near}
use Rattle.cordyceps_shared.specs.declared.free.FreeRooms.{FreeRooms}
use Rattle.cordyceps_shared.proofs.Places.{near_append, near_take}
use Rattle.cordyceps_shared.proofs.Ordering.{no_longer}
use Rattle.cordyceps_shared.proofs.Pools.{unpacked}
use Rattle.cordyceps_shared.proofs.StepEvents.{grown_then}
use Rattle.cordyceps_shared.proofs.TrackRooms.{tracks_joined, tracks_alone}
use Rattle.cordyceps_stack.specs.History.{Event, held, Legal, actor}
use Rattle.cordyceps_stack.specs.Shared.Parts.{Refills, GivesRest, RefillsTo, RefillsAtMost}
use Rattle.cordyceps_stack.specs.Shared.Plays.{SeatState, Sees, FindsPool, HasRefilled, IsResting, LacksRooms, chain_in_hand}
use Rattle.cordyceps_stack.specs.Shared.Slots.{vacant, all_vacant, last_link}
use Rattle.cordyceps_stack.specs.Shared.View.{Idle, View, held_rooms}
use Rattle.cordyceps_stack.proofs.SharedTheory.PartsJoin.{vacant_back, back_joins, first_or_none, tracks_rooms}
use Rattle.cordyceps_stack.proofs.SharedTheory.SlotMoves.{vacant_append}

module _ {E : Type 0} where
  -- the rooms of the pool, whose slots are in hand in order, and lead to this room; what was unpacked tracks them
  pub record IsFilled (slots end : ℕ) (taken : FreeRooms) (m t : SeatState E) : Type 0 where
    pub rooms : List ℕ
    pub held_is : held_rooms t.0.doing ≡ rooms
    pub free : t.0.free ≡ m.0.free
    pub hand : t.1 ≡ all_vacant rooms end
    pub near : Near slots rooms
    pub tracks : Tracks taken record { rooms = rooms; end = end }
    pub some_of : 0 < taken.count
    pub share : t.0.known.share ≡ m.0.known.share

  pub unpacks : (slots found : ℕ) (taken : FreeRooms) (m p : SeatState E) (h : HasRefilled slots found m p) → packed taken ≡ found → Fits taken
      → Tracks taken record { rooms = h.before ++ h.last ∷ []; end = h.end } × (0 < taken.count)
  unpacks slots found taken m p h is fits = unpacked found record { rooms = h.before ++ h.last ∷ []; end = h.end } taken h.packs is fits

  -- the last room's slot is the first in hand
  pub last_first : (slots found : ℕ) (taken : FreeRooms) (m p : SeatState E) (h : HasRefilled slots found m p) → packed taken ≡ found → Fits taken → m.1 ≡ [] → p.1 ≡ (taken.last, vacant h.end) ∷ all_vacant h.before (suc h.last)
  last_first slots found taken m p h is fits none =
      let u = unpacks slots found taken m p h is fits in
      let same = sym (u.0.last h.before h.last refl) in
      h.hand ∙ ((λ i. (same i, vacant h.end) ∷ all_vacant h.before (suc h.last) ++ none i) ∙ ap (λ l. (taken.last, vacant h.end) ∷ l) (append-nil (all_vacant h.before (suc h.last))))

  pub filled : (slots found end : ℕ) (taken : FreeRooms) (m p l t : SeatState E) (f : FindsPool slots found m p) (h : HasRefilled slots found m p) → packed taken ≡ found → Fits taken
      → l ≡ (p.0, (taken.last, vacant end) ∷ all_vacant h.before (suc h.last)) → t ≡ (l.0, turned l.1) → IsFilled slots end taken m t
  filled slots found end taken m p l t f h is fits led turned_is =
      let u = unpacks slots found taken m p h is fits in
      let same = u.0.last h.before h.last refl in
      let view_is : t.0 ≡ p.0 = ap (λ (q : SeatState E). q.0) turned_is ∙ ap (λ (q : SeatState E). q.0) led in record {
        rooms = h.before ++ h.last ∷ [];
        held_is = ap (λ v. held_rooms v.doing) view_is ∙ ap (λ d. held_rooms d) h.doing;
        free = ap (λ v. v.free) view_is ∙ h.free;
        hand = ap (λ (q : SeatState E). q.1) turned_is ∙ (ap (λ (q : SeatState E). turned q.1) led
            ∙ (ap (λ r. all_vacant h.before (suc h.last) ++ (r, vacant end) ∷ []) same ∙ sym (vacant_append E h.before (h.last ∷ []) end)));
        near = h.near;
        tracks = record { count = u.0.count; first = u.0.first; last = u.0.last };
        some_of = u.1;
        share = ap (λ (v : View E). v.known.share) view_is ∙ f.sees.share;
      }

  pub filled_hand : (slots end : ℕ) (taken : FreeRooms) (m t : SeatState E) → IsFilled slots end taken m t → t.1 ≡ all_vacant (held_rooms t.0.doing) (last_link t.1)
  filled_hand slots end taken m t f = subst (λ l. t.1 ≡ all_vacant l (last_link t.1)) (sym f.held_is) (vacant_back f.rooms end t.1 f.hand)

  pub filled_near : (slots end : ℕ) (taken : FreeRooms) (m t : SeatState E) → IsFilled slots end taken m t → Near slots (held_rooms t.0.doing)
  filled_near slots end taken m t f = subst (Near slots) (sym f.held_is) f.near

  pub filled_joins : (slots : ℕ) (free taken : FreeRooms) (m t : SeatState E) → IsFilled slots free.first taken m t → Tracks free m.0.free → MayJoin (chain_in_hand t) t.0.free
  filled_joins slots free taken m t f mine =
      subst (λ (z : List ℕ × FreeChain). MayJoin record { rooms = z.0; end = last_link t.1 } z.1) (λ i. (sym f.held_is i, sym f.free i)) (back_joins f.rooms free.first t.1 m.0.free f.hand (first_or_none free m.0.free mine))

  rooms_after : (slots end : ℕ) (taken : FreeRooms) (m t k : SeatState E) (f : IsFilled slots end taken m t) → k.0 ≡ record t.0 { doing = Idle; free = joined (chain_in_hand t) t.0.free } → k.0.free.rooms ≡ f.rooms ++ m.0.free.rooms
  rooms_after slots end taken m t k f after = ap (λ v. v.free.rooms) after ∙ (λ i. f.held_is i ++ (f.free i).rooms)

  pub refilled : (slots found end : ℕ) (taken : FreeRooms) (m p l t k : SeatState E) → IsResting slots m → (d : FindsPool slots found m p) (h : HasRefilled slots found m p) → packed taken ≡ found → Fits taken
      → l ≡ (p.0, (taken.last, vacant end) ∷ all_vacant h.before (suc h.last)) → t ≡ (l.0, turned l.1) → k.0 ≡ record t.0 { doing = Idle; free = joined (chain_in_hand t) t.0.free } → k.1 ≡ []
      → Refills slots taken.count m k
  refilled slots found end taken m p l t k rest d h is fits led turned_is after hand =
      let f = filled slots found end taken m p l t d h is fits led turned_is in
      let rooms = rooms_after slots end taken m t k f after in
      let known : k.0.known ≡ p.0.known = ap (λ v. v.known) after ∙ (ap (λ (q : SeatState E). q.0.known) turned_is ∙ ap (λ (q : SeatState E). q.0.known) led) in
      let long = ap (λ (l : List ℕ). length l) rooms in
      let sum = length-append f.rooms m.0.free.rooms in
      let count = f.tracks.count in record {
        rests = record {
          idle = ap (λ v. v.doing) after;
          empty = hand;
          named = λ e. rest.named (sym (ap (λ (q : Known (Event Name E)). q.share) known ∙ d.sees.share) ∙ e);
          near = subst (Near slots) (sym rooms) (near_append slots f.rooms m.0.free.rooms f.near rest.near);
        };
        free = omega arith;
        sees = subst (λ (q : Known (Event Name E)). Grown actor (λ z. Legal z) m.0.known [] q) (sym known) d.sees;
        all = λ is_whole.
            let all = d.all is_whole in
            let same = ap (λ (q : Known (Event Name E)). length (held (plain q.seen))) known in
            let view_is : t.0 ≡ p.0 = ap (λ (q : SeatState E). q.0) turned_is ∙ ap (λ (q : SeatState E). q.0) led in
            let free = ap (λ (c : FreeChain). length c.rooms) h.free in
            let mine = ap (λ (v : View E). length (held_rooms v.doing)) view_is in
            let theirs = ap (λ (l : List ℕ). length l) f.held_is in omega arith;
      }

  pub tracks_refilled : (slots : ℕ) (free taken : FreeRooms) (m t k : SeatState E) → IsFilled slots free.first taken m t → k.0 ≡ record t.0 { doing = Idle; free = joined (chain_in_hand t) t.0.free } → Tracks free m.0.free
      → (last : ℕ) → (free.count ≡ 0 → last ≡ taken.last) → (free.count ≢ 0 → last ≡ free.last) → Tracks record { first = taken.first; last = last; count = free.count + taken.count } k.0.free
  tracks_refilled slots free taken m t k f after mine last none more = tracks_rooms record { first = taken.first; last = last; count = free.count + taken.count } (joined chain m.0.free) k.0.free (rooms_after slots free.first taken m t k f after) (by free.count refl)
    where
      chain : FreeChain
      chain = record { rooms = f.rooms; end = free.first }

      sum : taken.count + free.count ≡ free.count + taken.count
      sum = omega arith

      by : (n : ℕ) → free.count ≡ n → Tracks record { first = taken.first; last = last; count = free.count + taken.count } (joined chain m.0.free)
      by zero is = subst (λ (q : ℕ × ℕ). Tracks record { first = taken.first; last = q.0; count = q.1 } (joined chain m.0.free)) (λ i. (sym (none is) i, sum i)) (tracks_alone taken free chain m.0.free f.tracks mine is)
      by (suc n) is = subst (λ (q : ℕ × ℕ). Tracks record { first = taken.first; last = q.0; count = q.1 } (joined chain m.0.free)) (λ i. (sym (more (λ e. absurd (omega arith))) i, sum i))
          (tracks_joined taken free chain m.0.free f.tracks mine (omega arith) (λ e. let long = ap (λ (l : List ℕ). length l) e in let c = f.tracks.count in let s = f.some_of in absurd (omega arith)))

  pub few_refilled : (slots : ℕ) (free taken : FreeRooms) (m t k : SeatState E) → IsFilled slots free.first taken m t → k.0 ≡ record t.0 { doing = Idle; free = joined (chain_in_hand t) t.0.free } → Tracks free m.0.free
      → length k.0.free.rooms ≤ slots → free.count + taken.count ≤ slots
  few_refilled slots free taken m t k f after mine few =
      let long = ap (λ (l : List ℕ). length l) (rooms_after slots free.first taken m t k f after) in
      let sum = length-append f.rooms m.0.free.rooms in
      let own = mine.count in
      let theirs = f.tracks.count in omega arith

  -- ---- rooms are given back
  pub given_last : (n last : ℕ) (m q : SeatState E) → q ≡ m → ((before : List ℕ) (r : ℕ) → take n q.0.free.rooms ≡ before ++ r ∷ [] → last ≡ r) → (before : List ℕ) (r : ℕ) → take n m.0.free.rooms ≡ before ++ r ∷ [] → last ≡ r
  given_last n last m q same is before r e = is before r (ap (λ (s : SeatState E). take n s.0.free.rooms) same ∙ e)

  pub left_first : (n first : ℕ) (m q : SeatState E) → q ≡ m → ((r : ℕ) (rs : List ℕ) → drop n q.0.free.rooms ≡ r ∷ rs → first ≡ suc r) → (r : ℕ) (rs : List ℕ) → drop n m.0.free.rooms ≡ r ∷ rs → first ≡ suc r
  left_first n first m q same is r rs e = is r rs (ap (λ (s : SeatState E). drop n s.0.free.rooms) same ∙ e)

  -- ---- what is above some rooms goes back
  pub refilled_to : (slots had most n : ℕ) (b : Bool) (m p k : SeatState E) → Refills slots n m p → had ≤ length m.0.free.rooms → had + most < length p.0.free.rooms → GivesRest (had + most) b p k → (b ≡ false → LacksRooms slots p) → RefillsTo slots had most b m k
  refilled_to slots had most n true m p k r low above g lacks =
      let kept = length-take-le (had + most) p.0.free.rooms (omega arith) in
      let free = ap (λ (q : SeatState E). length q.0.free.rooms) g in record {
        rests = subst (IsResting slots) (sym g) record {
          idle = r.rests.idle;
          empty = r.rests.empty;
          named = r.rests.named;
          near = near_take slots (had + most) p.0.free.rooms r.rests.near;
        };
        sees = subst (λ (q : SeatState E). Sees m.0 [] q.0) (sym g) r.sees;
        more = omega arith;
        few = λ _. omega arith;
        sure = λ _. refl;
        all = λ _ less. absurd (omega arith);
      }
  refilled_to slots had most n false m p k r low above g lacks =
      let free = ap (λ (q : SeatState E). length q.0.free.rooms) g in
      let full : m.0.known.share ≡ whole → ⊥ = λ is.
      let all = r.all is in
      let less = lacks refl (r.sees.share ∙ is) in
      let quiet = ap (λ d. length (held_rooms d)) r.rests.idle in omega arith
      in record {
        rests = subst (IsResting slots) (sym g) r.rests;
        sees = subst (λ (q : SeatState E). Sees m.0 [] q.0) (sym g) r.sees;
        more = omega arith;
        few = λ e. no_longer (sym e);
        sure = λ is. absurd (full is);
        all = λ is _. absurd (full is);
      }

  -- a party that had so many rooms and has so many now: it refilled once, or again since it could not give rooms back
  pub refilled_once : (slots most had now : ℕ) (b : Bool) (m k : SeatState E) → had ≡ length m.0.free.rooms → now ≡ length k.0.free.rooms → RefillsTo slots had most b m k → b ≡ true → RefillsAtMost slots most (now - had) m k
  refilled_once slots most had now b m k before after r done =
      let more = r.more in
      let few = r.few done in record {
        rests = r.rests;
        free = omega arith;
        sees = r.sees;
        few = λ _. omega arith;
        all = λ is less. r.all is (omega arith);
      }

  pub refilled_again : (slots most had now : ℕ) (b : Bool) (m p k : SeatState E) → had ≡ length m.0.free.rooms → now ≡ length k.0.free.rooms → RefillsTo slots had most b m p → b ≡ false → IsResting slots k → Sees p.0 [] k.0 → had ≤ length k.0.free.rooms
      → RefillsAtMost slots most (now - had) m k
  refilled_again slots most had now b m p k before after r failed rests sees more = record {
    rests = rests;
    free = omega arith;
    sees = grown_then actor (λ z. Legal z) m.0.known p.0.known k.0.known [] [] r.sees sees;
    few = λ is. no_longer (sym (r.sure is) ∙ failed);
    all = λ is _. no_longer (sym (r.sure is) ∙ failed);
  }
