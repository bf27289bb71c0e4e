-- What the parts of a call come to together.
use Rattle.std.proofs.Common.{◌≡◌, ◌≢◌, ◌↔◌, ◌⊎◌, ℕ, zero, suc, ◌+◌, ◌-◌, ◌≤◌, ◌<◌, List, [], ◌∷◌, ◌++◌, length, replicate, take, drop, take-append-drop, Bool, true, cond, eqb, refl, sym, ap, ◌∙◌, subst, inl, inr, ⊎_elim, arith, append-nil, append_assoc, length-append, eq-eqb, Option, Some, None}
use Rattle.std.proofs.lemmas.Bool.{eqb-true}
use Rattle.std.proofs.lemmas.List.{map-append, length-map, nil_from_length, reverse-append, length-take-le}
use Rattle.std.specs.Prelude.{IsTrue, reverse}
use Rattle.cordyceps_shared.specs.FreeChains.{Tracks, FreeChain, leads, with_first, with_last, first_rooms, rest_rooms, joined, IsTied, MayJoin}
use Rattle.cordyceps_shared.specs.Histories.{plain, own, AllOwn}
use Rattle.cordyceps_shared.specs.Knowing.{Known, Grown}
use Rattle.cordyceps_shared.specs.Places.{ItemAt}
use Rattle.cordyceps_shared.specs.Shares.{Name, first_name}
use Rattle.cordyceps_shared.specs.Slots.{Near}
use Rattle.cordyceps_shared.specs.declared.free.FreeRooms.{FreeRooms}
use Rattle.cordyceps_shared.proofs.Adding.{replicate_more, tail_own}
use Rattle.cordyceps_shared.proofs.Choices.{first_or}
use Rattle.cordyceps_shared.proofs.Places.{near_append}
use Rattle.cordyceps_shared.proofs.StepEvents.{grown_then}
use Rattle.cordyceps_shared.proofs.TrackRooms.{first_room, more_than_none, tracks_joined, tracks_alone}
use Rattle.cordyceps_stack.specs.History.{Event, Load, Push, Taken, Legal, SomeChange, actor}
use Rattle.cordyceps_stack.specs.Cores.Stages.{room_elements}
use Rattle.cordyceps_stack.specs.Shared.Calls.{EndsPushed, EndsLooked, IsOvertaken}
use Rattle.cordyceps_stack.specs.Shared.Parts.{HoldsFirst, Relinked, HasMissed, HasPushed, HasTried, SettlesAt, HasTaken, TookAll, EmptiesHand}
use Rattle.cordyceps_stack.specs.Shared.Plays.{SeatState, Sees, IsBegun, HasHit, HasFailed, HasSwapped, IsResting, IsReady, IsWalking, to_hand_out, chain_in_hand}
use Rattle.cordyceps_stack.specs.Shared.Slots.{Hand, start, rooms_of, link_or, filled, vacant, in_use, all_vacant, last_link}
use Rattle.cordyceps_stack.specs.Shared.View.{Idle, Holding, View, name, taking, held_rooms}
use Rattle.cordyceps_stack.proofs.SharedTheory.SlotMoves.{vacant_append, last_vacant, leads_append}
use Rattle.cordyceps_stack.proofs.SharedTheory.WordsKeep.{rooms_taking}

-- the last items of two lists
end_same : {A : Type 0} (d : A) (xs ys : List A) (x y : A) → xs ++ x ∷ [] ≡ ys ++ y ∷ [] → x ≡ y
end_same d xs ys x y e = ap (first_or d) (sym (reverse-append xs (x ∷ [])) ∙ (ap (λ z. reverse z) e ∙ reverse-append ys (y ∷ [])))

pub is_zero : (n : ℕ) → (n ≡ 0) ↔ IsTrue (eqb n 0)
is_zero n = (λ e. eq-eqb n 0 e, λ e. eqb-true n 0 e)

module _ {E : Type 0} where
  -- a party that loaded, and then did another step under the same name
  then_pushed : (v w k : View E) (x : E) → Sees v (Load (name v) ∷ []) w → Sees w (Push (name w) x ∷ []) k → Sees v (Load (name v) ∷ Push (name v) x ∷ []) k
  then_pushed v w k x a b = grown_then actor (λ h. Legal h) v.known w.known k.known (Load (name v) ∷ []) (Push (name v) x ∷ []) a (subst (λ n. Sees w (Push n x ∷ []) k) (ap first_name a.share) b)

  pub then_missed : (v w k : View E) → Sees v (Load (name v) ∷ []) w → Sees w [] k → Sees v (Load (name v) ∷ []) k
  then_missed v w k a b = grown_then actor (λ h. Legal h) v.known w.known k.known (Load (name v) ∷ []) [] a b

  -- ---- tries
  -- as yet no try, or so many that failed
  abbrev pub Tried : View E → View E → Type 0
  Tried v w = (w.known ≡ v.known) ⊎ ((tries : ℕ) × Sees v (replicate (suc tries) (Load (name v))) w)

  pub tried_share : (v w : View E) → Tried v w → w.known.share ≡ v.known.share
  tried_share v w (inl e) = ap (λ (z : Known (Event Name E)). z.share) e
  tried_share v w (inr t) = t.1.share

  pub tried_name : (v w : View E) → Tried v w → name w ≡ name v
  tried_name v w tried = ap first_name (tried_share v w tried)

  pub loads_then : (v w k : View E) (tries : ℕ) (es : Name → List (Event Name E)) → Sees v (replicate tries (Load (name v))) w → Sees w (Load (name w) ∷ es (name w)) k
      → Sees v (replicate (suc tries) (Load (name v)) ++ es (name v)) k
  loads_then v w k tries es a b =
      subst (λ xs. Sees v xs k) (replicate_more tries (Load (name v)) (es (name v)))
      (grown_then actor (λ h. Legal h) v.known w.known k.known (replicate tries (Load (name v))) (Load (name v) ∷ es (name v)) a (subst (λ q. Sees w (Load q ∷ es q) k) (ap first_name a.share) b))

  pub tried_again : (v w k : View E) → Tried v w → Sees w (Load (name w) ∷ []) k → Tried v k
  tried_again v w k (inl e) m = inr (0, subst (λ (p : Known (Event Name E)). Grown actor (λ h. Legal h) p (Load (first_name p.share) ∷ []) k.known) e m)
  tried_again v w k (inr t) m = inr (suc t.0, subst (λ xs. Sees v xs k) (append-nil (replicate (suc (suc t.0)) (Load (name v)))) (loads_then v w k (suc t.0) (λ _. []) t.1 m))

  pub tried_pushed : (v w k : View E) (x : E) → Tried v w → Sees w (Load (name w) ∷ Push (name w) x ∷ []) k → (tries : ℕ) × Sees v (replicate (suc tries) (Load (name v)) ++ Push (name v) x ∷ []) k
  tried_pushed v w k x (inl e) s = (0, subst (λ (p : Known (Event Name E)). Grown actor (λ h. Legal h) p (Load (first_name p.share) ∷ Push (first_name p.share) x ∷ []) k.known) e s)
  tried_pushed v w k x (inr t) s = (suc t.0, loads_then v w k (suc t.0) (λ n. Push n x ∷ []) t.1 s)

  pub ends_as : (e : E) (A B : Type 0) (n m : Name) (seen : List (Bool × Event Name E)) → n ≡ m → A ↔ B → EndsPushed e A n seen → EndsPushed e B m seen
  ends_as e A B n m seen same both p = record {
    before = p.before;
    is = p.is ∙ ap (λ z. p.before ++ (true, Push z e) ∷ []) same;
    first = (λ b. p.first.0 (both.1 b), λ h. both.0 (p.first.1 h));
  }

  pub looked_as : (A B : Type 0) (n : Name) (seen : List (Bool × Event Name E)) → A ↔ B → EndsLooked A n seen → EndsLooked B n seen
  looked_as A B n seen both p = record { before = p.before; is = p.is; none = (λ b. p.none.0 (both.1 b), λ h. both.0 (p.none.1 h)) }

  pub settles_at : (slots : ℕ) (x : E) (first : Bool) (m w k : SeatState E) → Tried m.0 w.0 → w.0.free ≡ m.0.free → SettlesAt slots 1 x first w k → (tries : ℕ) × SettlesAt slots (suc tries) x first m k
  settles_at slots x first m w k tried free s =
      let t = tried_pushed m.0 w.0 k.0 x tried s.sees in (
        t.0,
        record {
          rests = s.rests;
          free = s.free ∙ free;
          sees = t.1;
          ends = subst (λ n. EndsPushed x (IsTrue first) n k.0.known.seen) (tried_name m.0 w.0 tried) s.ends;
        },
      )

  -- ---- a try of a party that was ready, from what it loaded on
  pub settles_once : (slots room read : ℕ) (x : E) (hand : Hand E) (m l k : SeatState E) → IsReady slots room x m → l.0.free ≡ m.0.free → Sees m.0 (Load (name m.0) ∷ []) l.0 → HasHit x read (l.0, hand) k → SettlesAt slots 1 x (eqb read 0) m k
  settles_once slots room read x hand m l k ready free sees hit = record {
    rests = record {
      idle = hit.doing;
      empty = hit.hand;
      named = λ e. ready.named (sym (hit.sees.share ∙ sees.share) ∙ e);
      near = subst (λ l. Near slots l.rooms) (sym (hit.free ∙ free)) ready.near;
    };
    free = hit.free ∙ free;
    sees = then_pushed m.0 l.0 k.0 x sees hit.sees;
    ends = ends_as x (read ≡ 0) (IsTrue (eqb read 0)) (name l.0) (name m.0) k.0.known.seen (ap first_name sees.share) (is_zero read) hit.ends;
  }

  pub fails_once : (slots room read : ℕ) (x : E) (m l k : SeatState E) → IsReady slots room x m → l.0.free ≡ m.0.free → Sees m.0 (Load (name m.0) ∷ []) l.0 → HasFailed room (l.0, (room, filled x read) ∷ []) k → IsReady slots room x k × HasMissed m k
  fails_once slots room read x m l k ready free sees failed = (
    record {
      doing = failed.doing;
      link = read;
      hand = failed.hand;
      named = λ e. ready.named (sym (failed.sees.share ∙ sees.share) ∙ e);
      near = subst (λ l. Near slots l.rooms) (sym (failed.free ∙ free)) ready.near;
      inside = ready.inside;
    },
    record { free = failed.free ∙ free; sees = then_missed m.0 l.0 k.0 sees failed.sees; overtaken = failed.overtaken },
  )

  -- ---- the first try of a party that rested
  -- what it then has of its free rooms
  begun_free : (slots room read : ℕ) (rs : List ℕ) (m l k : SeatState E) → m.0.free.rooms ≡ room ∷ rs → IsBegun slots room rs read m l → k.0.free ≡ l.0.free → m.0.free ≡ with_first room k.0.free
  begun_free slots room read rs m l k rooms begun free =
      (λ j. let chain : FreeChain = record { rooms = rooms j; end = m.0.free.end } in chain) ∙ ap (with_first room) (sym (free ∙ begun.free))

  begun_next : (slots room read next : ℕ) (rs : List ℕ) (m l k : SeatState E) → IsBegun slots room rs read m l → l.1 ≡ (room, vacant next) ∷ [] → k.0.free ≡ l.0.free → next ≡ leads k.0.free.rooms k.0.free.end
  begun_next slots room read next rs m l k begun had free =
      ap (λ (h : Hand E). last_link (take 1 h)) (sym had ∙ begun.hand) ∙ ap (λ (c : FreeChain). leads c.rooms c.end) (sym (free ∙ begun.free))

  begun_near : (slots room read : ℕ) (rs : List ℕ) (m l k : SeatState E) → IsResting slots m → m.0.free.rooms ≡ room ∷ rs → IsBegun slots room rs read m l → k.0.free ≡ l.0.free → Near slots k.0.free.rooms
  begun_near slots room read rs m l k rests rooms begun free i q a =
      rests.near (suc i) q (subst (λ l. ItemAt l (suc i) q) (sym rooms) (subst (λ (c : FreeChain). ItemAt c.rooms i q) (free ∙ begun.free) a))

  pub tried_hit : (slots room read next : ℕ) (rs : List ℕ) (x : E) (hand : Hand E) (m l k : SeatState E) → IsResting slots m → m.0.free.rooms ≡ room ∷ rs → IsBegun slots room rs read m l → l.1 ≡ (room, vacant next) ∷ [] → HasHit x read (l.0, hand) k
      → HasTried slots room x next (Some (eqb read 0)) m k
  tried_hit slots room read next rs x hand m l k rests rooms begun had hit = record {
    free = begun_free slots room read rs m l k rooms begun hit.free;
    next_is = begun_next slots room read next rs m l k begun had hit.free;
    answer = record {
      rests = record {
        idle = hit.doing;
        empty = hit.hand;
        named = λ e. rests.named (sym (hit.sees.share ∙ begun.sees.share) ∙ e);
        near = begun_near slots room read rs m l k rests rooms begun hit.free;
      };
      sees = then_pushed m.0 l.0 k.0 x begun.sees hit.sees;
      ends = ends_as x (read ≡ 0) (IsTrue (eqb read 0)) (name l.0) (name m.0) k.0.known.seen (ap first_name begun.sees.share) (is_zero read) hit.ends;
    };
  }

  pub tried_failed : (slots room read next : ℕ) (rs : List ℕ) (x : E) (m l k : SeatState E) → IsResting slots m → m.0.free.rooms ≡ room ∷ rs → IsBegun slots room rs read m l → l.1 ≡ (room, vacant next) ∷ [] → HasFailed room (l.0, (room, filled x read) ∷ []) k
      → HasTried slots room x next None m k
  tried_failed slots room read next rs x m l k rests rooms begun had failed = record {
    free = begun_free slots room read rs m l k rooms begun failed.free;
    next_is = begun_next slots room read next rs m l k begun had failed.free;
    answer = record {
      ready = record {
        doing = failed.doing;
        link = read;
        hand = failed.hand;
        named = λ e. rests.named (sym (failed.sees.share ∙ begun.sees.share) ∙ e);
        near = begun_near slots room read rs m l k rests rooms begun failed.free;
        inside = begun.inside;
      };
      sees = then_missed m.0 l.0 k.0 begun.sees failed.sees;
      overtaken = failed.overtaken;
    };
  }

  -- ---- a whole push
  one_fewer : (slots room next : ℕ) (x : E) (first : Option Bool) (m f k : SeatState E) → HasTried slots room x next first m f → k.0.free ≡ f.0.free → length m.0.free.rooms ≡ suc (length k.0.free.rooms)
  one_fewer slots room next x first m f k tried same = ap (λ (l : FreeChain). length l.rooms) tried.free ∙ ap (λ (l : FreeChain). suc (length l.rooms)) (sym same)

  pub pushed_later : (slots room next tries : ℕ) (x : E) (first : Bool) (m f k : SeatState E) → HasTried slots room x next None m f → SettlesAt slots (suc tries) x first f k → HasPushed (suc (suc tries)) x first m k
  pushed_later slots room next tries x first m f k tried s = record {
    free = one_fewer slots room next x None m f k tried s.free;
    sees = loads_then m.0 f.0 k.0 1 (λ n. replicate tries (Load n) ++ Push n x ∷ []) tried.answer.sees s.sees;
    ends = subst (λ n. EndsPushed x (IsTrue first) n k.0.known.seen) (ap first_name tried.answer.sees.share) s.ends;
  }

  -- ---- a slot in hand goes back, emptied
  pub one_back : (room link : ℕ) (m : SeatState E) → m.0.doing ≡ Holding (room ∷ []) → m.1 ≡ (room, vacant link) ∷ [] → m.1 ≡ all_vacant (held_rooms m.0.doing) (last_link m.1)
  one_back room link m doing hand = hand ∙ (λ i. all_vacant (held_rooms (sym doing i)) (last_link (sym hand i)))

  -- a party that gives the slot back after its first try failed
  pub missed_first : (slots room next : ℕ) (x : E) (m f o : SeatState E) → HasTried slots room x next None m f → o ≡ (record f.0 { doing = Idle; free = with_first room f.0.free }, []) → HasMissed m o
  missed_first slots room next x m f o tried is =
      let known = ap (λ (q : SeatState E). q.0.known) is in record {
        free = ap (λ (q : SeatState E). q.0.free) is ∙ sym tried.free;
        sees = subst (λ (p : Known (Event Name E)). Grown actor (λ h. Legal h) m.0.known (Load (name m.0) ∷ []) p) (sym known) tried.answer.sees;
        overtaken = subst (λ (p : Known (Event Name E)). IsOvertaken p.seen) (sym known) tried.answer.overtaken;
      }

  -- what it has of its free rooms, with the first of them in use
  pub tracks_after : (slots room next : ℕ) (x : E) (first : Option Bool) (m f k : SeatState E) (free : FreeRooms) → HasTried slots room x next first m f → k.0.free ≡ f.0.free → Tracks free m.0.free → Tracks record free { first = next; count = free.count - 1 } k.0.free
  tracks_after slots room next x first m f k free tried same t =
      let rooms : m.0.free.rooms ≡ room ∷ f.0.free.rooms = ap (λ (l : FreeChain). l.rooms) tried.free in
      subst (λ c. Tracks record free { first = next; count = free.count - 1 } c) (sym same) record {
        count = let long = ap (λ (l : List ℕ). length l) rooms in let c = t.count in omega arith;
        first = λ r rs e. tried.next_is ∙ ap (λ l. leads l f.0.free.end) e;
        last = λ before r e. t.last (room ∷ before) r (rooms ∙ ap (λ l. room ∷ l) e);
      }

  -- a party whose events are all that it has seen was not overtaken
  no_change : (ys : List (Bool × Event Name E)) → AllOwn ys → own ys ≡ [] → SomeChange (plain ys) → ⊥
  no_change [] a e c = c
  no_change (y ∷ ys) a e c = let some_own : y.1 ∷ own ys ≡ [] = sym (ap (λ b. cond b (y.1 ∷ own ys) (own ys)) a.0) ∙ e in absurd (cc)

  pub not_overtaken : (seen : List (Bool × Event Name E)) → AllOwn seen → IsOvertaken seen → ⊥
  not_overtaken seen a m = no_change m.later (tail_own m.before ((true, Load m.load) ∷ m.later) (subst (λ z. AllOwn z) m.is a)).1 m.others m.changed

pub tracks_rooms : (free : FreeRooms) (chain after : FreeChain) → after.rooms ≡ chain.rooms → Tracks free chain → Tracks free after
tracks_rooms free chain after same t = record {
  count = t.count ∙ ap (λ (l : List ℕ). length l) (sym same);
  first = λ r rs e. t.first r rs (sym same ∙ e);
  last = λ before r e. t.last before r (sym same ∙ e);
}

pub first_or_none : (free : FreeRooms) (chain : FreeChain) → Tracks free chain → (chain.rooms ≡ []) ⊎ (free.first ≡ leads chain.rooms chain.end)
first_or_none free chain t = by chain.rooms refl
  where
    by : (rooms : List ℕ) → chain.rooms ≡ rooms → (chain.rooms ≡ []) ⊎ (free.first ≡ leads chain.rooms chain.end)
    by [] is = inl is
    by (r ∷ rs) is = inr (t.first r rs is ∙ ap (λ l. leads l chain.end) (sym is))

-- the word that leads to the first free room fits the table; what a party has of its rooms, with a link in its place
pub first_low : (slots : ℕ) (free : FreeRooms) (chain : FreeChain) → Tracks free chain → Near slots chain.rooms → 0 < free.count → free.first ≤ slots
first_low slots free chain t near some_of =
    let (others, rooms, low) = first_room free chain t some_of in
    let inside = near 0 (free.first - 1) (subst (λ l. ItemAt l 0 (free.first - 1)) (sym rooms) refl) in omega arith

pub tracks_linked : (link : ℕ) (free : FreeRooms) (chain : FreeChain) → (0 < free.count → link ≡ free.first) → Tracks free chain → Tracks record free { first = link } chain
tracks_linked link free chain same t = record {
  count = t.count;
  first = λ r rs e. let long = ap (λ (l : List ℕ). length l) e in let count = t.count in same (omega arith) ∙ t.first r rs e;
  last = t.last;
}

pub leads_first : (free : FreeRooms) (chain : FreeChain) (n : ℕ) → Tracks free chain → 0 < free.count → free.first ≡ leads (first_rooms n chain).rooms (first_rooms n chain).end
leads_first free chain n t some_of =
    let (others, rooms, low) = first_room free chain t some_of in
    let first : free.first ≡ leads chain.rooms chain.end = (let suc_of : free.first ≡ suc (free.first - 1) = omega arith in suc_of) ∙ ap (λ l. leads l chain.end) (sym rooms) in
    first ∙ (ap (λ l. leads l chain.end) (sym (take-append-drop n chain.rooms)) ∙ leads_append (take n chain.rooms) (drop n chain.rooms) chain.end)

-- the free room that is next
pub record NextFree (at : ℕ) (left : List ℕ) (end : ℕ) : Type 0 where
  pub here : ℕ
  pub others : List ℕ
  pub is : left ≡ here ∷ others
  pub at_is : at ≡ suc here

pub next_free_of : (at : ℕ) (left : List ℕ) (end : ℕ) → at ≡ leads left end → 0 < length left → NextFree at left end
next_free_of at [] end is some_of = absurd (omega arith)
next_free_of at (r ∷ rs) end is some_of = record { here = r; others = rs; is = refl; at_is = is }

module _ {E : Type 0} where
  -- ---- slots of free rooms in hand
  pub held_first : (n slots : ℕ) (m k : SeatState E) → IsResting slots m → k.0 ≡ record m.0 { doing = Holding (first_rooms n m.0.free).rooms; free = rest_rooms n m.0.free }
      → k.1 ≡ all_vacant (first_rooms n m.0.free).rooms (first_rooms n m.0.free).end ++ m.1 → HoldsFirst n m k
  held_first n slots m k rests view hand =
      let first = first_rooms n m.0.free in
      record { view_is = view; hand = hand ∙ (ap (λ l. all_vacant first.rooms first.end ++ l) rests.empty ∙ append-nil (all_vacant first.rooms first.end)) }

  -- the last free room was tied
  pub relinked : (slots : ℕ) (before : List ℕ) (r at : ℕ) (m l y k : SeatState E) → IsResting slots m → m.0.free.rooms ≡ before ++ r ∷ []
      → l.0 ≡ record m.0 { doing = Holding (r ∷ []); free = record { rooms = before; end = suc r } } → y ≡ (l.0, (r, vacant at) ∷ [])
      → k.0 ≡ record y.0 { doing = Idle; free = with_last r at y.0.free } → k.1 ≡ [] → Relinked m k × IsTied k.0.free at
  relinked slots before r at m l y k rests rooms held tied view hand =
      let now : k.0 ≡ record m.0 { doing = Idle; free = with_last r at record { rooms = before; end = suc r } } =
      view ∙ ((λ i. let v : View E = record (tied i).0 { doing = Idle; free = with_last r at (tied i).0.free } in v)
      ∙ (λ i. let v : View E = record (held i) { doing = Idle; free = with_last r at (held i).free } in v)) in (
        record {
          known = ap (λ v. v.known) now;
          doing = ap (λ v. v.doing) now ∙ sym rests.idle;
          rooms = ap (λ v. v.free.rooms) now ∙ sym rooms;
          hand = hand ∙ sym rests.empty;
        },
        inr (ap (λ v. v.free.end) now),
      )

  -- slots of free rooms go back
  pub vacant_back : (rooms : List ℕ) (end : ℕ) (h : Hand E) → h ≡ all_vacant rooms end → h ≡ all_vacant rooms (last_link h)
  vacant_back [] end h is = is
  vacant_back (r ∷ rs) end h is = is ∙ ap (all_vacant (r ∷ rs)) (sym (ap (λ l. last_link l) is ∙ last_vacant E r rs end))

  pub back_joins : (rooms : List ℕ) (end : ℕ) (h : Hand E) (free : FreeChain) → h ≡ all_vacant rooms end → (free.rooms ≡ []) ⊎ (end ≡ leads free.rooms free.end) → MayJoin record { rooms = rooms; end = last_link h } free
  back_joins [] end h free is to = inl refl
  back_joins (r ∷ rs) end h free is to = inr (⊎_elim (λ none. inl none) (λ e. inr (ap (λ l. last_link l) is ∙ (last_vacant E r rs end ∙ e))) to)

  -- in the midst of following their links: which rooms are done, and which are left
  pub record Follows (at last count : ℕ) (rooms : List ℕ) (end : ℕ) (w : SeatState E) : Type 0 where
    pub done : List ℕ
    pub left : List ℕ
    pub split : done ++ left ≡ rooms
    pub hand : w.1 ≡ all_vacant left end ++ all_vacant done (leads left end)
    pub at_is : at ≡ leads left end
    pub count_is : count ≡ length done
    pub last_is : (before : List ℕ) (r : ℕ) → done ≡ before ++ r ∷ [] → last ≡ r

  pub follows_first : (at last : ℕ) (rooms : List ℕ) (end : ℕ) (w : SeatState E) → w.1 ≡ all_vacant rooms end → at ≡ leads rooms end → Follows at last 0 rooms end w
  follows_first at last rooms end w hand at_is = record {
    done = [];
    left = rooms;
    split = refl;
    hand = hand ∙ sym (append-nil (all_vacant rooms end));
    at_is = at_is;
    count_is = refl;
    last_is = λ before r e. absurd (more_than_none before r (sym e));
  }

  pub next_free : (at last count : ℕ) (rooms : List ℕ) (end : ℕ) (w : SeatState E) (f : Follows at last count rooms end w) → count < length rooms → NextFree at f.left end
  next_free at last count rooms end w f low =
      let long = ap (λ (l : List ℕ). length l) (sym f.split) ∙ length-append f.done f.left in
      let c = f.count_is in next_free_of at f.left end f.at_is (omega arith)

  pub next_vacant : (at last count : ℕ) (rooms : List ℕ) (end : ℕ) (w : SeatState E) (f : Follows at last count rooms end w) (n : NextFree at f.left end)
      → w.1 ≡ (n.here, vacant (leads n.others end)) ∷ (all_vacant n.others end ++ all_vacant f.done (suc n.here))
  next_vacant at last count rooms end w f n = f.hand ∙ ap (λ l. all_vacant l end ++ all_vacant f.done (leads l end)) n.is

  pub follows_next : (at last count : ℕ) (rooms : List ℕ) (end : ℕ) (w k : SeatState E) (f : Follows at last count rooms end w) (n : NextFree at f.left end)
      → k.1 ≡ (all_vacant n.others end ++ all_vacant f.done (suc n.here)) ++ (n.here, vacant (leads n.others end)) ∷ []
      → (room more to : ℕ) → room ≡ n.here → more ≡ suc count → to ≡ leads n.others end → Follows to room more rooms end k
  follows_next at last count rooms end w k f n hand room more to here more_is to_is =
      let lead = leads n.others end in record {
        done = f.done ++ n.here ∷ [];
        left = n.others;
        split = append_assoc f.done (n.here ∷ []) n.others ∙ (ap (λ l. f.done ++ l) (sym n.is) ∙ f.split);
        hand = hand
            ∙ (append_assoc (all_vacant n.others end) (all_vacant f.done (suc n.here)) ((n.here, vacant lead) ∷ [])
            ∙ ap (λ l. all_vacant n.others end ++ l) (sym (vacant_append E f.done (n.here ∷ []) lead)));
        at_is = to_is;
        count_is = let long = length-append f.done (n.here ∷ []) in let c = f.count_is in omega arith;
        last_is = λ before r e. here ∙ end_same n.here f.done before n.here r e;
      }

  -- all are done
  pub record FollowedAll (at last : ℕ) (rooms : List ℕ) (end : ℕ) (w : SeatState E) : Type 0 where
    pub hand : w.1 ≡ all_vacant rooms end
    pub at_is : at ≡ end
    pub last_is : (before : List ℕ) (r : ℕ) → rooms ≡ before ++ r ∷ [] → last ≡ r

  pub follows_all : (at last count : ℕ) (rooms : List ℕ) (end : ℕ) (w : SeatState E) → Follows at last count rooms end w → length rooms ≤ count
      → FollowedAll at last rooms end w
  follows_all at last count rooms end w f all =
      let long = ap (λ (l : List ℕ). length l) (sym f.split) ∙ length-append f.done f.left in
      let c = f.count_is in
      let none = nil_from_length f.left (omega arith) in
      let whole : f.done ≡ rooms = sym (append-nil f.done) ∙ (ap (λ l. f.done ++ l) (sym none) ∙ f.split) in record {
        hand = f.hand ∙ (λ i. all_vacant (none i) end ++ all_vacant (whole i) (leads (none i) end));
        at_is = f.at_is ∙ ap (λ l. leads l end) none;
        last_is = λ before r e. f.last_is before r (whole ∙ e);
      }

  -- the slots were only looked at, and all is as before
  pub passes_first : (n at : ℕ) (m k : SeatState E) → HoldsFirst n m k → at ≡ leads (first_rooms n m.0.free).rooms (first_rooms n m.0.free).end → Follows at 0 0 (held_rooms k.0.doing) (leads k.0.free.rooms k.0.free.end) k
  passes_first n at m k holds is =
      subst (λ (v : View E). Follows at 0 0 (held_rooms v.doing) (leads v.free.rooms v.free.end) k) (sym holds.view_is)
      (follows_first at 0 (first_rooms n m.0.free).rooms (first_rooms n m.0.free).end k holds.hand is)

  pub held_long : (n : ℕ) (m k : SeatState E) → HoldsFirst n m k → n ≤ length m.0.free.rooms → length (held_rooms k.0.doing) ≡ n
  held_long n m k holds low = ap (λ (v : View E). length (held_rooms v.doing)) holds.view_is ∙ length-take-le n m.0.free.rooms low

  -- ---- taking all
  batch_taking : (xs : List (ℕ × E)) → to_hand_out (taking xs) ≡ xs
  batch_taking [] = refl
  batch_taking (x ∷ xs) = refl

  pub took_all : (slots found : ℕ) (m k : SeatState E) → IsResting slots m → HasSwapped slots found m k → TookAll slots found m k
  took_all slots found m k rests s =
      let batch : to_hand_out k.0.doing ≡ s.chain = ap to_hand_out s.doing ∙ batch_taking s.chain in record {
        taken = record {
          at_is = s.found_is ∙ ap start (sym batch);
          walks = subst (λ xs. IsWalking slots xs k) (sym batch) record {
            doing = s.doing;
            hand = s.hand ∙ (ap (λ l. in_use s.chain ++ l) rests.empty ∙ append-nil (in_use s.chain));
            chain = s.near;
            few = s.few;
            named = λ e. rests.named (sym s.sees.share ∙ e);
            near = subst (λ l. Near slots l.rooms) (sym s.free) rests.near;
          };
        };
        free = s.free;
        sees = subst (λ (xs : List (ℕ × E)). Sees m.0 (Taken (name m.0) (room_elements xs) ∷ []) k.0) (sym batch) s.sees;
      }

  starts_nowhere : (xs : List (ℕ × E)) → start xs ≡ 0 → xs ≡ []
  starts_nowhere [] e = refl
  starts_nowhere (x ∷ xs) e = absurd (omega arith)

  -- ---- handing out
  -- in the midst of it: which rooms are done, and which are left; the last one's link is this word in place of null
  pub record HandsOut (at after last count : ℕ) (all : List (ℕ × E)) (m w : SeatState E) : Type 0 where
    pub done : List (ℕ × E)
    pub left : List (ℕ × E)
    pub split : done ++ left ≡ all
    pub view_is : w.0 ≡ m.0
    pub hand : w.1 ≡ in_use left ++ all_vacant (rooms_of done) (leads (rooms_of left) after)
    pub at_is : at ≡ start left
    pub count_is : count ≡ length done
    pub last_is : (before : List ℕ) (r : ℕ) → rooms_of done ≡ before ++ r ∷ [] → last ≡ r

  pub hands_first : (slots at after last : ℕ) (m : SeatState E) → HasTaken slots at m → (h : HandsOut at after last 0 (to_hand_out m.0.doing) m m) × (h.left ≡ to_hand_out m.0.doing)
  hands_first slots at after last m taken = (
    record {
      done = [];
      left = to_hand_out m.0.doing;
      split = refl;
      view_is = refl;
      hand = taken.walks.hand ∙ sym (append-nil (in_use (to_hand_out m.0.doing)));
      at_is = taken.at_is;
      count_is = refl;
      last_is = λ before r e. absurd (more_than_none before r (sym e));
    },
    refl,
  )

  -- the room that is next
  pub record Next (at after : ℕ) (left : List (ℕ × E)) : Type 0 where
    pub here : ℕ × E
    pub others : List (ℕ × E)
    pub is : left ≡ here ∷ others
    pub at_is : at ≡ suc here.0
    pub below : link_or (start others) after ≡ leads (rooms_of others) after

  pub next_of : (at after : ℕ) (left : List (ℕ × E)) → at ≡ start left → at ≢ 0 → Next at after left
  next_of at after [] is more = absurd (more is)
  next_of at after (x ∷ xs) is more = record { here = x; others = xs; is = refl; at_is = is; below = by xs }
    where
      by : (ys : List (ℕ × E)) → link_or (start ys) after ≡ leads (rooms_of ys) after
      by [] = refl
      by (y ∷ ys) = refl

  -- its slot is the first in hand
  pub next_hand : (at after last count : ℕ) (all : List (ℕ × E)) (m w : SeatState E) (h : HandsOut at after last count all m w) (n : Next at after h.left)
      → w.1 ≡ (n.here.0, filled n.here.1 (start n.others)) ∷ (in_use n.others ++ all_vacant (rooms_of h.done) (suc n.here.0))
  next_hand at after last count all m w h n = h.hand ∙ ap (λ (l : List (ℕ × E)). in_use l ++ all_vacant (rooms_of h.done) (leads (rooms_of l) after)) n.is

  pub hands_next : (at after last count : ℕ) (all : List (ℕ × E)) (m w k : SeatState E) (h : HandsOut at after last count all m w) (n : Next at after h.left)
      → k ≡ (w.0, (in_use n.others ++ all_vacant (rooms_of h.done) (suc n.here.0)) ++ (n.here.0, vacant (link_or (start n.others) after)) ∷ [])
      → (room more at' : ℕ) → room ≡ n.here.0 → more ≡ suc count → at' ≡ start n.others → (t : HandsOut at' after room more all m k) × (t.left ≡ n.others)
  hands_next at after last count all m w k h n is room more at' here more_is at_is =
      let to = leads (rooms_of n.others) after in
      let rooms : rooms_of (h.done ++ n.here ∷ []) ≡ rooms_of h.done ++ n.here.0 ∷ [] = map-append (λ x. x.0) h.done (n.here ∷ []) in (
        record {
          done = h.done ++ n.here ∷ [];
          left = n.others;
          split = append_assoc h.done (n.here ∷ []) n.others ∙ (ap (λ l. h.done ++ l) (sym n.is) ∙ h.split);
          view_is = ap (λ (q : SeatState E). q.0) is ∙ h.view_is;
          hand = ap (λ (q : SeatState E). q.1) is
              ∙ (append_assoc (in_use n.others) (all_vacant (rooms_of h.done) (suc n.here.0)) ((n.here.0, vacant (link_or (start n.others) after)) ∷ [])
              ∙ ap (λ l. in_use n.others ++ l)
              (ap (λ q. all_vacant (rooms_of h.done) (suc n.here.0) ++ (n.here.0, vacant q) ∷ []) n.below ∙ (sym (vacant_append E (rooms_of h.done) (n.here.0 ∷ []) to) ∙ ap (λ l. all_vacant l to) (sym rooms))));
          at_is = at_is;
          count_is = let long = length-append h.done (n.here ∷ []) in let c = h.count_is in omega arith;
          last_is = λ before r e. here ∙ end_same n.here.0 (rooms_of h.done) before n.here.0 r (sym rooms ∙ e);
        },
        refl,
      )

  -- all is handed out
  pub record HandedOut (after last count : ℕ) (all : List (ℕ × E)) (m w : SeatState E) : Type 0 where
    pub view_is : w.0 ≡ m.0
    pub hand : w.1 ≡ all_vacant (rooms_of all) after
    pub count_is : count ≡ length all
    pub last_is : (before : List ℕ) (r : ℕ) → rooms_of all ≡ before ++ r ∷ [] → last ≡ r

  pub handed_out : (at after last count : ℕ) (all : List (ℕ × E)) (m w : SeatState E) → HandsOut at after last count all m w → at ≡ 0 → HandedOut after last count all m w
  handed_out at after last count all m w h none =
      let no = starts_nowhere h.left (sym h.at_is ∙ none) in
      let whole : h.done ≡ all = sym (append-nil h.done) ∙ (ap (λ l. h.done ++ l) (sym no) ∙ h.split) in record {
        view_is = h.view_is;
        hand = h.hand ∙ (λ i. in_use (no i) ++ all_vacant (rooms_of (whole i)) (leads (rooms_of (no i)) after));
        count_is = h.count_is ∙ ap (λ (l : List (ℕ × E)). length l) whole;
        last_is = λ before r e. h.last_is before r (ap (λ (l : List (ℕ × E)). rooms_of l) whole ∙ e);
      }

  -- ---- the slots of what was handed out go back
  pub handed_rooms : (slots at after last count : ℕ) (m w : SeatState E) → HasTaken slots at m → HandedOut after last count (to_hand_out m.0.doing) m w → held_rooms w.0.doing ≡ rooms_of (to_hand_out m.0.doing)
  handed_rooms slots at after last count m w taken h = ap (λ (v : View E). held_rooms v.doing) h.view_is ∙ (ap (λ d. held_rooms d) taken.walks.doing ∙ rooms_taking (to_hand_out m.0.doing))

  -- the free rooms that it then has
  back_rooms : (slots at after last count : ℕ) (m w k : SeatState E) → HasTaken slots at m → HandedOut after last count (to_hand_out m.0.doing) m w → k.0 ≡ record w.0 { doing = Idle; free = joined (chain_in_hand w) w.0.free }
      → k.0.free.rooms ≡ rooms_of (to_hand_out m.0.doing) ++ m.0.free.rooms
  back_rooms slots at after last count m w k taken h view = ap (λ v. v.free.rooms) view ∙ (λ i. handed_rooms slots at after last count m w taken h i ++ (h.view_is i).free.rooms)

  pub handed_back : (slots at after last count : ℕ) (m w k : SeatState E) → HasTaken slots at m → HandedOut after last count (to_hand_out m.0.doing) m w → k.0 ≡ record w.0 { doing = Idle; free = joined (chain_in_hand w) w.0.free } → k.1 ≡ []
      → EmptiesHand slots m k
  handed_back slots at after last count m w k taken h view hand =
      let all = to_hand_out m.0.doing in
      let known = ap (λ v. v.known) view ∙ ap (λ v. v.known) h.view_is in
      let rooms = back_rooms slots at after last count m w k taken h view in record {
        rests = record {
          idle = ap (λ v. v.doing) view;
          empty = hand;
          named = λ e. taken.walks.named (sym (ap (λ (p : Known (Event Name E)). p.share) known) ∙ e);
          near = subst (Near slots) (sym rooms) (near_append slots (rooms_of all) m.0.free.rooms taken.walks.chain taken.walks.near);
        };
        known = known;
        free =
            let a = ap (λ (l : List ℕ). length l) rooms in
            let b = length-append (rooms_of all) m.0.free.rooms in
            let c = length-map all (λ (x : ℕ × E). x.0) in omega arith;
      }

  -- what it has of them, where it had some and where it had none
  back_mine : (at last count after : ℕ) (all : List (ℕ × E)) (m w : SeatState E) → at ≡ start all → HandedOut after last count all m w → Tracks record { first = at; last = last; count = count } record { rooms = rooms_of all; end = after }
  back_mine at last count after all m w is h = record {
    count = h.count_is ∙ sym (length-map all (λ (x : ℕ × E). x.0));
    first = λ r rs e. is ∙ by all r rs e;
    last = h.last_is;
  }
    where
      by : (xs : List (ℕ × E)) (r : ℕ) (rs : List ℕ) → rooms_of xs ≡ r ∷ rs → start xs ≡ suc r
      by [] r rs e = absurd (cc)
      by (x ∷ xs) r rs e = ap (λ l. suc (first_or 0 l)) e

  pub tracks_back : (slots at after last count : ℕ) (m w k : SeatState E) (free : FreeRooms) → HasTaken slots at m → at ≢ 0 → HandedOut after last count (to_hand_out m.0.doing) m w → k.0 ≡ record w.0 { doing = Idle; free = joined (chain_in_hand w) w.0.free }
      → Tracks free m.0.free → (all_last : ℕ) → (free.count ≡ 0 → all_last ≡ last) → (0 < free.count → all_last ≡ free.last) → Tracks record { first = at; last = all_last; count = free.count + count } k.0.free
  tracks_back slots at after last count m w k free taken some_of h view t all_last none more =
      let all = to_hand_out m.0.doing in
      let mine = back_mine at last count after all m w taken.at_is h in
      let chain : FreeChain = record { rooms = rooms_of all; end = after } in
      let rooms = back_rooms slots at after last count m w k taken h view in
      tracks_rooms record { first = at; last = all_last; count = free.count + count } (joined chain m.0.free) k.0.free rooms (by free.count refl mine)
    where
      by : (n : ℕ) → free.count ≡ n → Tracks record { first = at; last = last; count = count } record { rooms = rooms_of (to_hand_out m.0.doing); end = after }
          → Tracks record { first = at; last = all_last; count = free.count + count } (joined record { rooms = rooms_of (to_hand_out m.0.doing); end = after } m.0.free)
      by zero is mine = subst (λ (p : ℕ × ℕ). Tracks record { first = at; last = p.0; count = p.1 } (joined record { rooms = rooms_of (to_hand_out m.0.doing); end = after } m.0.free))
          (λ i. (sym (none is) i, (let sum : count + free.count ≡ free.count + count = omega arith in sum) i))
          (tracks_alone record { first = at; last = last; count = count } free record { rooms = rooms_of (to_hand_out m.0.doing); end = after } m.0.free mine t is)
      by (suc n) is mine = subst (λ (p : ℕ × ℕ). Tracks record { first = at; last = p.0; count = p.1 } (joined record { rooms = rooms_of (to_hand_out m.0.doing); end = after } m.0.free))
          (λ i. (sym (more (omega arith)) i, (let sum : count + free.count ≡ free.count + count = omega arith in sum) i))
          (tracks_joined record { first = at; last = last; count = count } free record { rooms = rooms_of (to_hand_out m.0.doing); end = after } m.0.free mine t (omega arith) (λ e. absurd (some_of (taken.at_is ∙ nowhere (to_hand_out m.0.doing) e))))
        where
          nowhere : (xs : List (ℕ × E)) → rooms_of xs ≡ [] → start xs ≡ 0
          nowhere [] e = refl
          nowhere (x ∷ xs) e = absurd (cc)
