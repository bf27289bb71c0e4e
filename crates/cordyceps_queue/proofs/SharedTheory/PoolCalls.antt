-- What the calls on the pool of a shared queue promise, from what their parts leave.
use Rattle.std.proofs.Common.{◌≡◌, ℕ, suc, ◌+◌, ◌-◌, List, [], ◌∷◌, ◌++◌, length, drop, Bool, true, false, refl, sym, ap, ◌∙◌, subst, arith, append-nil, length-append, length-drop}
use Rattle.atomic_table.specs.Seated.{TableId}
use Rattle.cordyceps_shared.specs.FreeChains.{end_after}
use Rattle.cordyceps_shared.specs.Histories.{plain}
use Rattle.cordyceps_shared.specs.Shares.{whole, first_name}
use Rattle.cordyceps_shared.specs.Standings.{known_of, name_of}
use Rattle.cordyceps_shared.specs.Standings as party
use Rattle.cordyceps_shared.proofs.StepEvents.{grown_then}
use Rattle.cordyceps_shared.proofs.Places.{near_drop}
use Rattle.cordyceps_shared.specs.Slots.{Near}
use Rattle.cordyceps_queue.specs.declared.shared.spare.Spare.{Spare}
use Rattle.cordyceps_queue.specs.declared.shared.uses.RoomUse.{RoomUse}
use Rattle.cordyceps_queue.specs.History.{held, Swap, Link, actor}
use Rattle.cordyceps_queue.specs.Shared.Calls as call
use Rattle.cordyceps_queue.specs.Shared.Parts.{standing, IsSeated, IsConsuming, TracksEnd, GivesBack}
use Rattle.cordyceps_queue.specs.Shared.Plays.{SeatState, Sees, LacksRooms, IsResting, Holds}
use Rattle.cordyceps_queue.specs.Shared.Uses.{HasUse}
use Rattle.cordyceps_queue.specs.Shared.View.{View, free_chain, view_returned, bit_of}
use Rattle.cordyceps_queue.proofs.SharedTheory.CallsHold.{adds, seated_after}
use Rattle.cordyceps_queue.proofs.SharedTheory.PartsJoin.{bare_rooms, near_parts, may_join}
use Rattle.cordyceps_queue.proofs.SharedTheory.RightHolds.{swapped}

module _ {E : Type 0} where
  -- ---- a refill
  pub refill_seated : (z z' t : TableId) (m k : SeatState E) (spare left : Spare) → IsSeated z m spare → z' ≡ z → z ≡ t → IsResting t.slots k → Sees m.0 [] k.0 → TracksEnd left (free_chain k.0) → IsSeated z' k left
  refill_seated z z' t m k spare left s at there rests sees tracks = seated_after z z' t m k spare left [] s at there rests tracks sees (λ q. (refl, refl))

  rooms_at_rest : (slots : ℕ) (m : SeatState E) → IsResting slots m → length (m.0.back ++ m.0.free) ≡ length m.0.free
  rooms_at_rest slots m q = ap (λ (l : List ℕ). length (l ++ m.0.free)) q.back

  pub refills : (z z' : TableId) (slots slots_then n : ℕ) (m k : SeatState E) → IsResting slots_then m → z' ≡ z → IsResting slots k → length k.0.free ≡ length m.0.free + n → Sees m.0 [] k.0 → call.Refills n (standing z m.0) (standing z' k.0)
  refills z z' slots slots_then n m k q at rests free sees = (
    adds z z' m.0 k.0 [] sees at,
    rooms_at_rest slots k rests ∙ (free ∙ ap (λ x. x + n) (sym (rooms_at_rest slots_then m q))),
  )

  pub has_all : (z z' t : TableId) (k : SeatState E) → z' ≡ z → z ≡ t → IsResting t.slots k → suc (length (held (plain k.0.known.seen)) + length k.0.free) ≡ t.slots → call.HasAllRooms (standing z' k.0)
  has_all z z' t k at there rests all =
      let slots = ap (λ (q : TableId). q.slots) (at ∙ there) in
      let rooms = rooms_at_rest t.slots k rests in omega arith

  -- ---- putting an element in, after a refill
  pub enqueues_now : (e : E) (u w : call.PartyOf E) → call.Enqueues e u w → call.EnqueuesRefilled e u w
  enqueues_now e u w b = let rooms = b.1 in (b.0, (0, omega arith, λ _. refl))

  pub enqueues_then : (e : E) (n : ℕ) (u v w : call.PartyOf E) → call.Refills n u v → u.rooms ≡ 0 → call.Enqueues e v w → call.EnqueuesRefilled e u w
  enqueues_then e n u v w a none b =
      let rooms = a.1 in
      let left = b.1 in
      let same : name_of v ≡ name_of u = ap first_name a.0.0.share in
      let then : call.Adds v (Swap (name_of u) e ∷ Link (name_of u) ∷ []) w = subst (λ q. call.Adds v (Swap q e ∷ Link q ∷ []) w) same b.0 in (
        (grown_then actor (λ h. call.Legal h) (known_of u) (known_of v) (known_of w) [] (Swap (name_of u) e ∷ Link (name_of u) ∷ []) a.0.0 then.0, then.1 ∙ a.0.1),
        (n, omega arith, λ some_of. absurd (omega arith)),
      )

  -- ---- rooms are given back
  pub gives_back : (z z' : TableId) (n : ℕ) (b : Bool) (m k : SeatState E) → z' ≡ z → GivesBack n b (view_returned m.0, []) k → party.GivesBack n b (standing z m.0) (standing z' k.0)
  gives_back z z' n true m k at g =
      let count : length (drop n (m.0.free ++ m.0.back)) ≡ length (m.0.back ++ m.0.free) - n = length-drop n (m.0.free ++ m.0.back) ∙ ap (λ x. x - n) (swapped m.0.free m.0.back) in
      ap (λ (q : SeatState E). standing z' q.0) g ∙ (λ i. record { table = at i; seen = m.0.known.seen; share = m.0.known.share; rooms = count i })
  gives_back z z' n false m k at g =
      ap (λ (q : SeatState E). standing z' q.0) g ∙ (λ i. record { table = at i; seen = m.0.known.seen; share = m.0.known.share; rooms = swapped m.0.free m.0.back i })

  pub lacks_rooms : (z z' t : TableId) (n : ℕ) (b : Bool) (m k : SeatState E) → z' ≡ z → z ≡ t → GivesBack n b (view_returned m.0, []) k → b ≡ false → LacksRooms t.slots m → m.0.known.share ≡ whole → call.LacksRooms (standing z' k.0)
  lacks_rooms z z' t n b m k at there g not lacks is =
      let same = subst (λ c. GivesBack n c (view_returned m.0, []) k) not g in
      let less = lacks is in
      let slots = ap (λ (q : TableId). q.slots) (at ∙ there) in
      let rooms = ap (λ (q : SeatState E). length (q.0.back ++ q.0.free)) same in
      let seen = ap (λ (q : SeatState E). length (held (plain q.0.known.seen))) same in
      let long = length-append m.0.free m.0.back in
      omega arith

  -- with no slot in hand nothing is given back
  returned_same : (m : SeatState E) → m.0.back ≡ [] → m.1 ≡ [] → (view_returned m.0, []) ≡ m
  returned_same m bare hand =
      (λ i. let v : View E = record m.0 { free = m.0.free ++ bare i; end = end_after m.0.end (bare i) m.0.to; back = [] } in (v, []))
      ∙ (λ i. let v : View E = record m.0 { free = append-nil m.0.free i; back = sym bare i } in (v, sym hand i))

  left_seated : (z : TableId) (n : ℕ) (m : SeatState E) (spare left : Spare) → IsSeated z m spare → let v : View E = record m.0 { free = drop n m.0.free } in TracksEnd left (free_chain v) → IsSeated z (v, m.1) left
  left_seated z n m spare left s tracks = record {
    table = s.table;
    rests = record {
      stage = s.rests.stage;
      back = s.rests.back;
      hand = s.rests.hand;
      named = s.rests.named;
      near = near_drop z.slots n m.0.free s.rests.near;
    };
    tracks = tracks;
    legal = s.legal;
    alone = s.alone;
    share = s.share;
    linked = s.linked;
    unheld = s.unheld;
  }

  pub give_back_seated : (z z' : TableId) (n : ℕ) (b : Bool) (m k : SeatState E) (spare left : Spare) → IsSeated z m spare → z' ≡ z → GivesBack n b (view_returned m.0, []) k → TracksEnd left (free_chain k.0) → IsSeated z' k left
  give_back_seated z z' n b m k spare left s at g tracks =
      by b (subst (λ q. GivesBack n b q k) (returned_same m s.rests.back s.rests.hand) g)
    where
      by : (b : Bool) → GivesBack n b m k → IsSeated z' k left
      by true is = subst (λ (q : TableId × SeatState E). IsSeated q.0 q.1 left) (λ i. (sym at i, sym is i)) (left_seated z n m spare left s (subst (λ (q : SeatState E). TracksEnd left (free_chain q.0)) is tracks))
      by false is = subst (λ (q : TableId × SeatState E). IsSeated q.0 q.1 left) (λ i. (sym at i, sym is i)) record {
        table = s.table;
        rests = s.rests;
        tracks = subst (λ (q : SeatState E). TracksEnd left (free_chain q.0)) is tracks;
        legal = s.legal;
        alone = s.alone;
        share = s.share;
        linked = s.linked;
        unheld = s.unheld;
      }

  -- by a party that has the right
  still_consuming : (z : TableId) (t : ℕ) (m : SeatState E) (free : List ℕ) (end : ℕ) (spare left : Spare) → IsConsuming z t m spare → Near z.slots free → let v : View E = record m.0 { free = free; end = end; back = [] } in TracksEnd left (free_chain v) → IsConsuming z t (v, []) left
  still_consuming z t m free end spare left c near tracks =
      let v : View E = record m.0 { free = free; end = end; back = [] } in
      let right : Holds z.slots t (v, []) = record {
        stage = c.holds.right.stage;
        carries = refl;
        named = c.holds.right.named;
        near = near_parts z.slots free free [] refl refl near;
        inside = c.holds.right.inside;
      } in record {
        table = c.table;
        holds = record { right = right; joins = may_join v refl };
        tracks = subst (TracksEnd left) (sym (bare_rooms v refl)) tracks;
        legal = c.legal;
        alone = c.alone;
        share = c.share;
        linked = c.linked;
        held = c.held;
      }

  pub give_back_consuming : (z z' : TableId) (t n : ℕ) (b : Bool) (m k : SeatState E) (spare left : Spare) → IsConsuming z t m spare → z' ≡ z → GivesBack n b (view_returned m.0, []) k → TracksEnd left (free_chain k.0) → IsConsuming z' t k left
  give_back_consuming z z' t n true m k spare left c at g tracks =
      let all = m.0.free ++ m.0.back in
      let end = end_after m.0.end m.0.back m.0.to in
      subst (λ (q : TableId × SeatState E). IsConsuming q.0 t q.1 left) (λ i. (sym at i, sym g i))
      (still_consuming z t m (drop n all) end spare left c (near_drop z.slots n all c.holds.right.near)
      (subst (λ (q : SeatState E). TracksEnd left (free_chain q.0)) g tracks))
  give_back_consuming z z' t n false m k spare left c at g tracks =
      let all = m.0.free ++ m.0.back in
      let end = end_after m.0.end m.0.back m.0.to in
      subst (λ (q : TableId × SeatState E). IsConsuming q.0 t q.1 left) (λ i. (sym at i, sym g i))
      (still_consuming z t m all end spare left c c.holds.right.near
      (subst (λ (q : SeatState E). TracksEnd left (free_chain q.0)) g tracks))

  -- the bits of the uses are as they were
  pub give_back_knows : (n : ℕ) (b : Bool) (m k : SeatState E) (u : RoomUse) → GivesBack n b (view_returned m.0, []) k → HasUse m u → HasUse k u
  give_back_knows n true m k u g h = (ap (λ (q : SeatState E). bit_of q.0.bits u.room) g ∙ h.0, h.1)
  give_back_knows n false m k u g h = (ap (λ (q : SeatState E). bit_of q.0.bits u.room) g ∙ h.0, h.1)
