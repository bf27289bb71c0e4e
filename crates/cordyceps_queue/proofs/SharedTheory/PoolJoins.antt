-- What the parts of a refill come to together, and of giving rooms back to the pool.
use Rattle.std.proofs.Common.{◌≡◌, ◌≢◌, ℕ, ◌+◌, ◌-◌, ◌≤◌, ◌<◌, List, [], ◌∷◌, ◌++◌, length, Bool, true, false, refl, sym, ap, ◌∙◌, subst, inl, inr, ⊎_elim, arith, length-append}
use Rattle.std.proofs.lemmas.List.{length-take-le}
use Rattle.cordyceps_shared.specs.FreeChains.{FreeChain, Tracks, IsTied, MayJoin, leads}
use Rattle.cordyceps_shared.specs.Histories.{plain}
use Rattle.cordyceps_shared.specs.Knowing.{Known, Grown}
use Rattle.cordyceps_shared.specs.Places.{ItemAt}
use Rattle.cordyceps_shared.specs.Pools.{packed, Fits}
use Rattle.cordyceps_shared.specs.Shares.{Name, whole}
use Rattle.cordyceps_shared.specs.Slots.{Near}
use Rattle.cordyceps_shared.specs.declared.free.FreeRooms.{FreeRooms}
use Rattle.cordyceps_shared.proofs.Places.{near_append, near_take}
use Rattle.cordyceps_shared.proofs.Ordering.{no_longer}
use Rattle.cordyceps_shared.proofs.Pools.{unpacked, some_in_pool}
use Rattle.cordyceps_shared.proofs.StepEvents.{grown_then}
use Rattle.cordyceps_shared.proofs.TrackRooms.{first_room, last_room}
use Rattle.cordyceps_queue.specs.declared.cores.stage.Stage.TheVariants.{Rest}
use Rattle.cordyceps_queue.specs.declared.shared.spare.Spare.{Spare}
use Rattle.cordyceps_queue.specs.History.{Event, held, actor}
use Rattle.cordyceps_queue.specs.Shared.Parts.{TracksEnd, MayReturn, Relinked, Refills, GivesRest, RefillsTo, RefillsAtMost}
use Rattle.cordyceps_queue.specs.Shared.Plays.{SeatState, LegalReversed, IsResting, Sees, FindsPool, LacksRooms, carry}
use Rattle.cordyceps_queue.specs.Shared.View.{View, free_chain, back_chain, view_returned, begun_count}
use Rattle.cordyceps_queue.proofs.SharedTheory.SpareRooms.{tracks_joined}
use Rattle.cordyceps_queue.proofs.SharedTheory.WordsAsMachine.{at_after}

-- the word that leads to the first of some rooms
leads_first : (free : FreeRooms) (chain : FreeChain) → Tracks free chain → 0 < free.count → leads chain.rooms chain.end ≡ free.first
leads_first free chain t some_of =
    let (_, first, low) = first_room free chain t some_of in
    let e = ap (λ l. leads l chain.end) first in omega arith

module _ {E : Type 0} where
  -- ---- which slots a party may give back
  pub near_back : (slots : ℕ) (m : SeatState E) → MayReturn slots m → Near slots m.0.back
  near_back slots m r i x a = r.near (length m.0.free + i) x (at_after m.0.free m.0.back i x a)

  -- ---- a refill
  -- the party has the pool's rooms, to which its free ones lead; what was unpacked tracks them
  pub record IsFilled (slots : ℕ) (taken : FreeRooms) (m p l : SeatState E) : Type 0 where
    pub tracks : Tracks taken (back_chain l.0)
    pub some_of : 0 < taken.count
    pub near : Near slots l.0.back
    pub carries : l.1 ≡ carry l.0.back
    pub stage : l.0.stage ≡ Rest
    pub free : l.0.free ≡ m.0.free
    pub back : l.0.back ≡ p.0.back
    pub known : l.0.known ≡ p.0.known
    pub joins : MayJoin (free_chain l.0) (back_chain l.0)

  pub unpacks : (slots found : ℕ) (taken : FreeRooms) (m p : SeatState E) → FindsPool slots found m p → found ≢ 0 → packed taken ≡ found → Fits taken → Tracks taken (back_chain p.0) × (0 < taken.count)
  unpacks slots found taken m p d ne is fits = unpacked found (back_chain p.0) taken (some_in_pool found (back_chain p.0) d.leads ne) is fits

  pub first_near : (slots found : ℕ) (taken : FreeRooms) (m p : SeatState E) → FindsPool slots found m p → found ≢ 0 → packed taken ≡ found → Fits taken → taken.first ≤ slots
  first_near slots found taken m p d ne is fits =
      let u = unpacks slots found taken m p d ne is fits in
      let f = first_room taken (back_chain p.0) u.0 u.1 in
      let low = d.near 0 (taken.first - 1) (subst (λ l. ItemAt l 0 (taken.first - 1)) (sym f.1) refl) in
      omega arith

  pub filled : (slots found : ℕ) (taken : FreeRooms) (m p l : SeatState E) → FindsPool slots found m p → found ≢ 0 → packed taken ≡ found → Fits taken → Relinked p l → IsTied (free_chain l.0) taken.first → IsFilled slots taken m p l
  filled slots found taken m p l d ne is fits r tied =
      let u = unpacks slots found taken m p d ne is fits in
      let same : back_chain l.0 ≡ back_chain p.0 = ap (λ (v : View E). back_chain v) r.view in
      let rooms : l.0.back ≡ p.0.back = ap (λ (c : FreeChain). c.rooms) same in
      let tracks : Tracks taken (back_chain l.0) = subst (Tracks taken) (sym same) u.0 in record {
        tracks = tracks;
        some_of = u.1;
        near = subst (Near slots) (sym rooms) d.near;
        carries = r.hand ∙ (d.hand ∙ ap (λ (l : List ℕ). carry l) (sym rooms));
        stage = ap (λ (v : View E). v.stage) r.view ∙ d.stage;
        free = ap (λ (v : View E). v.free) r.view ∙ ap (λ (c : FreeChain). c.rooms) d.free;
        back = rooms;
        known = ap (λ (v : View E). v.known) r.view;
        joins = ⊎_elim (λ e. inl e) (λ e. inr (inr (e ∙ sym (leads_first taken (back_chain l.0) tracks u.1)))) tied;
      }

  pub filled_returns : (slots found : ℕ) (taken : FreeRooms) (m p l : SeatState E) → IsResting slots m → FindsPool slots found m p → IsFilled slots taken m p l → MayReturn slots l
  filled_returns slots found taken m p l q d f = record {
    carries = f.carries;
    named = λ e. q.named (sym (ap (λ (z : Known (Event Name E)). z.share) f.known ∙ d.sees.share) ∙ e);
    near = subst (λ z. Near slots (z ++ l.0.back)) (sym f.free) (near_append slots m.0.free l.0.back q.near f.near);
    joins = f.joins;
  }

  pub filled_last : (slots : ℕ) (taken : FreeRooms) (m p l : SeatState E) → IsFilled slots taken m p l → (before : List ℕ) × (l.0.back ≡ before ++ taken.last ∷ [])
  filled_last slots taken m p l f = let t = last_room slots taken (back_chain l.0) f.tracks f.some_of f.near in (t.0, t.1)

  pub refilled : (slots found : ℕ) (taken : FreeRooms) (m p l k : SeatState E) → IsResting slots m → FindsPool slots found m p → IsFilled slots taken m p l → k ≡ (view_returned l.0, []) → Refills slots taken.count m k
  refilled slots found taken m p l k q d f g =
      let v : k.0 ≡ view_returned l.0 = ap (λ (z : SeatState E). z.0) g in
      let known : k.0.known ≡ p.0.known = ap (λ (z : View E). z.known) v ∙ f.known in
      let free : k.0.free ≡ m.0.free ++ l.0.back = ap (λ (z : View E). z.free) v ∙ ap (λ z. z ++ l.0.back) f.free in
      let long = ap (λ (z : List ℕ). length z) free in
      let sum = length-append m.0.free l.0.back in
      let count = f.tracks.count in record {
        rests = record {
          stage = ap (λ (z : View E). z.stage) v ∙ f.stage;
          back = ap (λ (z : View E). z.back) v;
          hand = ap (λ (z : SeatState E). z.1) g;
          named = λ e. q.named (sym (ap (λ (z : Known (Event Name E)). z.share) known ∙ d.sees.share) ∙ e);
          near = subst (Near slots) (sym free) (near_append slots m.0.free l.0.back q.near f.near);
        };
        free = omega arith;
        few =
            let few = d.few in
            let cut = length-append p.0.free p.0.back in
            let mine = ap (λ (c : FreeChain). length c.rooms) d.free in
            let theirs = ap (λ (z : List ℕ). length z) f.back in omega arith;
        sees = subst (λ (z : Known (Event Name E)). Grown actor LegalReversed m.0.known [] z) (sym known) d.sees;
        all = λ is_whole.
            let all = d.all is_whole in
            let seen = ap (λ (z : Known (Event Name E)). length (held (plain z.seen))) known in
            let mine = ap (λ (c : FreeChain). length c.rooms) d.free in
            let theirs = ap (λ (z : List ℕ). length z) f.back in
            let quiet = ap begun_count d.stage in omega arith;
      }

  pub tracks_refilled : (slots end : ℕ) (spare : FreeRooms) (taken : FreeRooms) (m p l k : SeatState E) → IsFilled slots taken m p l → k ≡ (view_returned l.0, []) → Tracks spare (free_chain l.0) → (l.0.free ≡ [] → spare.first ≡ taken.first) → end ≡ l.0.to
      → TracksEnd record { rooms = record { first = spare.first; last = taken.last; count = spare.count + taken.count }; end = end } (free_chain k.0)
  tracks_refilled slots end spare taken m p l k f g tracks first is =
      let other : Spare = record { rooms = taken; end = end } in
      subst (λ (c : FreeChain). TracksEnd record { rooms = record { first = spare.first; last = taken.last; count = spare.count + taken.count }; end = end } c) (sym (ap (λ (z : SeatState E). free_chain z.0) g))
      (tracks_joined spare other (free_chain l.0) (back_chain l.0) tracks record { tracks = f.tracks; end = λ _. is } f.some_of first)

  -- ---- what is above some rooms goes back
  pub refilled_to : (slots had most n : ℕ) (b : Bool) (m p k : SeatState E) → Refills slots n m p → had ≤ length m.0.free → had + most < length p.0.free → GivesRest (had + most) b p k → (b ≡ false → LacksRooms slots p) → RefillsTo slots had most b m k
  refilled_to slots had most n true m p k r low above g lacks =
      let kept = length-take-le (had + most) p.0.free (omega arith) in
      let free = ap (λ (q : SeatState E). length q.0.free) g in record {
        rests = subst (IsResting slots) (sym g) record {
          stage = r.rests.stage;
          back = r.rests.back;
          hand = r.rests.hand;
          named = r.rests.named;
          near = near_take slots (had + most) p.0.free r.rests.near;
        };
        sees = subst (λ (q : SeatState E). Sees m.0 [] q.0) (sym g) r.sees;
        more = omega arith;
        few = λ _. omega arith;
        sure = λ _. refl;
        all = λ _ less. absurd (omega arith);
      }
  refilled_to slots had most n false m p k r low above g lacks =
      let free = ap (λ (q : SeatState E). length q.0.free) g in
      let full : m.0.known.share ≡ whole → ⊥ = λ is.
      let all = r.all is in
      let less = lacks refl (r.sees.share ∙ is) in
      let none = ap (λ (l : List ℕ). length l) r.rests.back in
      let quiet = ap begun_count r.rests.stage in omega arith
      in record {
        rests = subst (IsResting slots) (sym g) r.rests;
        sees = subst (λ (q : SeatState E). Sees m.0 [] q.0) (sym g) r.sees;
        more = omega arith;
        few = λ e. no_longer (sym e);
        sure = λ is. absurd (full is);
        all = λ is _. absurd (full is);
      }

  -- a party that had so many rooms and has so many now: it refilled once, or again since it could not give rooms back
  pub refilled_once : (slots most had now : ℕ) (b : Bool) (m k : SeatState E) → had ≡ length m.0.free → now ≡ length k.0.free → RefillsTo slots had most b m k → b ≡ true → RefillsAtMost slots most (now - had) m k
  refilled_once slots most had now b m k before after r done =
      let more = r.more in
      let few = r.few done in record {
        rests = r.rests;
        free = omega arith;
        sees = r.sees;
        few = λ _. omega arith;
        all = λ is less. r.all is (omega arith);
      }

  pub refilled_again : (slots most had now : ℕ) (b : Bool) (m p k : SeatState E) → had ≡ length m.0.free → now ≡ length k.0.free → RefillsTo slots had most b m p → b ≡ false → IsResting slots k → Sees p.0 [] k.0 → had ≤ length k.0.free → RefillsAtMost slots most (now - had) m k
  refilled_again slots most had now b m p k before after r failed rests sees more = record {
    rests = rests;
    free = omega arith;
    sees = grown_then actor LegalReversed m.0.known p.0.known k.0.known [] [] r.sees sees;
    few = λ is. no_longer (sym (r.sure is) ∙ failed);
    all = λ is _. no_longer (sym (r.sure is) ∙ failed);
  }
