-- What the parts of a push of several elements come to together.
use Rattle.std.proofs.Common.{◌≡◌, ◌↔◌, ℕ, suc, ◌+◌, ◌-◌, ◌≤◌, List, [], ◌∷◌, ◌++◌, map, length, replicate, take, Bool, true, eqb, refl, sym, ap, ◌∙◌, subst, inl, inr, arith, append-nil, append_assoc, length-append, length-drop}
use Rattle.std.proofs.lemmas.List.{map-append, length-take-le}
use Rattle.std.specs.Prelude.{IsTrue}
use Rattle.atomic_table.specs.Table.{turned}
use Rattle.cordyceps_shared.specs.FreeChains.{Tracks, FreeChain, leads, first_rooms, rest_rooms}
use Rattle.cordyceps_shared.specs.Histories.{plain}
use Rattle.cordyceps_shared.specs.Knowing.{Known, Grown}
use Rattle.cordyceps_shared.specs.Shares.{Name, first_name}
use Rattle.cordyceps_shared.specs.Slots.{Near}
use Rattle.cordyceps_shared.specs.declared.free.FreeRooms.{FreeRooms}
use Rattle.cordyceps_shared.proofs.Adding.{plain_append}
use Rattle.cordyceps_shared.proofs.Places.{near_take, near_drop}
use Rattle.cordyceps_shared.proofs.StepEvents.{grown_then}
use Rattle.cordyceps_shared.proofs.TrackRooms.{first_room, tracks_keeping}
use Rattle.cordyceps_stack.specs.History.{Event, Load, held, Legal, actor}
use Rattle.cordyceps_stack.specs.Cores.Stages.{room_elements}
use Rattle.cordyceps_stack.specs.Shared.Calls.{EndsPushedAll, EndsLooked, IsOvertaken, pushes_of}
use Rattle.cordyceps_stack.specs.Shared.Parts.{HoldsFirst, HasMissed, HasFilled, HasKept, HasBacked, SettlesAllAt, HasPushedAll, HasTaken, EmptiesHand}
use Rattle.cordyceps_stack.specs.Shared.Plays.{SeatState, Sees, HasHitAll, HasFailedAll, IsResting, IsReadyAll, IsWalking, to_hand_out, all_then, rooms_then, elements_then, chain_then}
use Rattle.cordyceps_stack.specs.Shared.Slots.{Hand, start, rooms_of, filled, vacant, in_use, in_use_to, all_vacant}
use Rattle.cordyceps_stack.specs.Shared.View.{Holding, Walking, View, name, taking, held_rooms}
use Rattle.cordyceps_stack.proofs.Histories.{held_more}
use Rattle.cordyceps_stack.proofs.SharedTheory.PartsJoin.{Tried, NextFree, is_zero, then_missed, loads_then, tried_name}
use Rattle.cordyceps_stack.proofs.SharedTheory.SlotMoves.{in_use_last, start_onto}
use Rattle.cordyceps_stack.proofs.SharedTheory.WordsKeep.{elements_onto, length_elements}

-- the first of n free rooms, and the others
pub record FirstOf (room n : ℕ) (chain : FreeChain) : Type 0 where
  pub others : List ℕ
  pub is : (first_rooms n chain).rooms ≡ room ∷ others
  pub long : suc (length others) ≡ n

pub first_of : (free : FreeRooms) (chain : FreeChain) (n : ℕ) → Tracks free chain → suc n ≤ free.count → FirstOf (free.first - 1) (suc n) chain
first_of free chain n t some_of =
    let (others, rooms, low) = first_room free chain t (omega arith) in
    let is : (first_rooms (suc n) chain).rooms ≡ (free.first - 1) ∷ take n others = ap (λ l. take (suc n) l) rooms in
    let long = ap (λ (l : List ℕ). length l) rooms in
    let c = t.count in
    record { others = take n others; is = is; long = ap suc (length-take-le n others (omega arith)) }

module _ {E : Type 0} where
  pub first_vacant : (room n : ℕ) (m k : SeatState E) → HoldsFirst n m k → (f : FirstOf room n m.0.free)
      → let end = (first_rooms n m.0.free).end in k.1 ≡ (room, vacant (leads f.others end)) ∷ all_vacant f.others end
  first_vacant room n m k h f = h.hand ∙ ap (λ l. all_vacant l (first_rooms n m.0.free).end) f.is

  -- ---- in the midst of filling slots: which rooms are done, the last one with its element, and which are left
  pub record Fills (last next : ℕ) (all : List ℕ) (end : ℕ) (w : SeatState E) : Type 0 where
    pub done : List (ℕ × E)
    pub x : E
    pub left : List ℕ
    pub split : rooms_of done ++ last ∷ left ≡ all
    pub hand : w.1 ≡ (last, filled x next) ∷ (all_vacant left end ++ in_use_to done (suc last))
    pub next_is : next ≡ leads left end

  pub fills_first : (room next : ℕ) (x : E) (all left : List ℕ) (end : ℕ) (w : SeatState E) → all ≡ room ∷ left → next ≡ leads left end → w.1 ≡ (room, filled x (leads left end)) ∷ all_vacant left end → Fills room next all end w
  fills_first room next x all left end w is at hand = record {
    done = [];
    x = x;
    left = left;
    split = sym is;
    hand = hand ∙ (λ i. (room, filled x (sym at i)) ∷ sym (append-nil (all_vacant left end)) i);
    next_is = at;
  }

  -- the first of n slots is filled, with x
  pub record FillsFirst (n room next : ℕ) (x : E) (all : List ℕ) (end : ℕ) (p : SeatState E) : Type 0 where
    pub fills : Fills room next all end p
    pub long : suc (length fills.left) ≡ n
    pub elements : elements_then fills.done fills.x ≡ x ∷ []

  pub fills_start : (n room next : ℕ) (x : E) (m k p : SeatState E) → HoldsFirst n m k → (f : FirstOf room n m.0.free) → next ≡ leads f.others (first_rooms n m.0.free).end
      → p ≡ (k.0, (room, filled x (leads f.others (first_rooms n m.0.free).end)) ∷ all_vacant f.others (first_rooms n m.0.free).end)
      → FillsFirst n room next x (held_rooms p.0.doing) (leads p.0.free.rooms p.0.free.end) p
  unfolding fills_first
  fills_start n room next x m k p h f at is =
      let first = first_rooms n m.0.free in
      subst (λ (v : View E). FillsFirst n room next x (held_rooms v.doing) (leads v.free.rooms v.free.end) p) (sym (ap (λ (q : SeatState E). q.0) is ∙ h.view_is)) record {
        fills = fills_first room next x first.rooms f.others first.end p f.is at (ap (λ (q : SeatState E). q.1) is);
        long = f.long;
        elements = refl;
      }

  -- the next slot comes to the front
  pub fills_turn : (last next : ℕ) (all : List ℕ) (end : ℕ) (w : SeatState E) (f : Fills last next all end w) (n : NextFree next f.left end)
      → turned w.1 ≡ (n.here, vacant (leads n.others end)) ∷ (all_vacant n.others end ++ in_use_to (f.done ++ (last, f.x) ∷ []) (suc n.here))
  fills_turn last next all end w f n =
      ap turned f.hand
      ∙ (append_assoc (all_vacant f.left end) (in_use_to f.done (suc last)) ((last, filled f.x next) ∷ [])
      ∙ (ap (λ q. all_vacant f.left end ++ (in_use_to f.done (suc last) ++ (last, filled f.x q) ∷ [])) n.at_is
      ∙ (ap (λ l. all_vacant f.left end ++ l) (sym (in_use_last f.done last (suc n.here) f.x))
      ∙ ap (λ l. all_vacant l end ++ in_use_to (f.done ++ (last, f.x) ∷ []) (suc n.here)) n.is)))

  -- the next slot is filled, with y
  pub record FillsNext (room to : ℕ) (all : List ℕ) (end : ℕ) (k : SeatState E) (elements : List E) (y : E) (others : List ℕ) : Type 0 where
    pub fills : Fills room to all end k
    pub elements_are : elements_then fills.done fills.x ≡ elements ++ y ∷ []
    pub left_are : fills.left ≡ others

  pub fills_next : (last next : ℕ) (all : List ℕ) (end : ℕ) (w k : SeatState E) (f : Fills last next all end w) (n : NextFree next f.left end) (y : E) (room to : ℕ) → room ≡ n.here → to ≡ leads n.others end
      → k.1 ≡ (n.here, filled y (leads n.others end)) ∷ (all_vacant n.others end ++ in_use_to (f.done ++ (last, f.x) ∷ []) (suc n.here))
      → FillsNext room to all end k (elements_then f.done f.x) y n.others
  fills_next last next all end w k f n y room to here to_is hand =
      let done = f.done ++ (last, f.x) ∷ [] in
      let rooms : rooms_of done ≡ rooms_then f.done last = map-append (λ (z : ℕ × E). z.0) f.done ((last, f.x) ∷ []) in record {
        fills = record {
          done = done;
          x = y;
          left = n.others;
          split = ap (λ r. rooms_of done ++ r ∷ n.others) here
              ∙ (ap (λ l. l ++ n.here ∷ n.others) rooms ∙ (append_assoc (rooms_of f.done) (last ∷ []) (n.here ∷ n.others) ∙ (ap (λ l. rooms_of f.done ++ last ∷ l) (sym n.is) ∙ f.split)));
          hand = hand ∙ (λ i. (sym here i, filled y (sym to_is i)) ∷ (all_vacant n.others end ++ in_use_to done (suc (sym here i))));
          next_is = to_is;
        };
        elements_are = ap (λ l. l ++ y ∷ []) (elements_onto f.done ((last, f.x) ∷ []));
        left_are = refl;
      }

  -- all are filled
  pub record FillsAll (last next : ℕ) (all : List ℕ) (end : ℕ) (w : SeatState E) (done : List (ℕ × E)) (x : E) : Type 0 where
    pub rooms : all ≡ rooms_then done last
    pub hand : w.1 ≡ chain_then done last x next
    pub next_is : next ≡ end

  pub fills_all : (last next : ℕ) (all : List ℕ) (end : ℕ) (w : SeatState E) (f : Fills last next all end w) → f.left ≡ [] → FillsAll last next all end w f.done f.x
  fills_all last next all end w f none = record {
    rooms = sym f.split ∙ ap (λ l. rooms_of f.done ++ last ∷ l) none;
    hand = f.hand ∙ ap (λ l. (last, filled f.x next) ∷ (all_vacant l end ++ in_use_to f.done (suc last))) none;
    next_is = f.next_is ∙ ap (λ l. leads l end) none;
  }

  first_led : (done : List (ℕ × E)) (last room : ℕ) (others : List ℕ) → rooms_then done last ≡ room ∷ others → suc room ≡ leads (rooms_of done) (suc last)
  first_led [] last room others e = ap (λ l. leads l 0) (sym e)
  first_led (x ∷ xs) last room others e = ap (λ l. leads l 0) (sym e)

  -- a party that rested has filled the slots of its first free rooms
  pub has_filled : (slots first n last next : ℕ) (m p w : SeatState E) → IsResting slots m → p.0 ≡ record m.0 { doing = Holding (first_rooms n m.0.free).rooms; free = rest_rooms n m.0.free } → w.0 ≡ p.0
      → (f : Fills last next (held_rooms p.0.doing) (leads p.0.free.rooms p.0.free.end) w) → f.left ≡ [] → FirstOf (first - 1) n m.0.free → 1 ≤ first → n ≤ length m.0.free.rooms → length (elements_then f.done f.x) ≡ n
      → HasFilled slots first f.done last f.x m w
  has_filled slots first n last next m p w rests held same f none of some_of low long =
      let all = fills_all last next (held_rooms p.0.doing) (leads p.0.free.rooms p.0.free.end) w f none in
      let view = same ∙ held in
      let rooms : (first_rooms n m.0.free).rooms ≡ rooms_then f.done last = sym (ap (λ v. held_rooms v.doing) held) ∙ all.rooms in
      let free = ap (λ v. v.free.rooms) view in
      let left = ap (λ (l : List ℕ). length l) free ∙ length-drop n m.0.free.rooms in
      record {
        ready = record {
          rooms = ap (λ v. held_rooms v.doing) view ∙ rooms;
          link = next;
          hand = all.hand;
          first_is = (let up : first ≡ suc (first - 1) = omega arith in up) ∙ first_led f.done last (first - 1) of.others (sym rooms ∙ of.is);
          named = λ e. rests.named (sym (ap (λ v. v.known.share) view) ∙ e);
          near = subst (Near slots) (sym free) (near_drop slots n m.0.free.rooms rests.near);
          inside = subst (Near slots) rooms (near_take slots n m.0.free.rooms rests.near);
        };
        known = ap (λ v. v.known) view;
        rooms = omega arith;
      }

  -- what it then has of its free rooms
  pub tracks_filled : (n last next : ℕ) (free : FreeRooms) (m p w : SeatState E) → p.0 ≡ record m.0 { doing = Holding (first_rooms n m.0.free).rooms; free = rest_rooms n m.0.free } → w.0 ≡ p.0
      → (f : Fills last next (held_rooms p.0.doing) (leads p.0.free.rooms p.0.free.end) w) → f.left ≡ [] → Tracks free m.0.free → Tracks record { first = next; last = free.last; count = free.count - n } w.0.free
  tracks_filled n last next free m p w held same f none t =
      let left : FreeRooms = record { first = next; last = free.last; count = free.count - n } in
      let to = (fills_all last next (held_rooms p.0.doing) (leads p.0.free.rooms p.0.free.end) w f none).next_is ∙ ap (λ v. leads v.free.rooms v.free.end) held in
      subst (λ c. Tracks left c) (sym (ap (λ v. v.free) (same ∙ held))) (tracks_keeping free m.0.free n next t (λ r rs e. to ∙ ap (λ l. leads l m.0.free.end) e))

  -- ---- tries
  pub ends_all_as : (es : List E) (A B : Type 0) (n m : Name) (seen : List (Bool × Event Name E)) → n ≡ m → A ↔ B → EndsPushedAll es A n seen → EndsPushedAll es B m seen
  ends_all_as es A B n m seen same both p = record {
    before = p.before;
    is = p.is ∙ ap (λ z. p.before ++ map (λ v. (true, v)) (pushes_of z es)) same;
    first = (λ b. p.first.0 (both.1 b), λ h. both.0 (p.first.1 h));
  }

  then_pushed_all : (v w k : View E) (es : List E) → Sees v (Load (name v) ∷ []) w → Sees w (pushes_of (name w) es) k → Sees v (Load (name v) ∷ pushes_of (name v) es) k
  then_pushed_all v w k es a b = grown_then actor (λ h. Legal h) v.known w.known k.known (Load (name v) ∷ []) (pushes_of (name v) es) a (subst (λ n. Sees w (pushes_of n es) k) (ap first_name a.share) b)

  pub settles_all_once : (slots first last read : ℕ) (before : List (ℕ × E)) (x : E) (hand : Hand E) (m l k : SeatState E) → IsReadyAll slots first before last x m → l.0.free ≡ m.0.free → Sees m.0 (Load (name m.0) ∷ []) l.0
      → HasHitAll (elements_then before x) read (l.0, hand) k → SettlesAllAt slots 1 (elements_then before x) (eqb read 0) m k
  settles_all_once slots first last read before x hand m l k ready free sees hit = record {
    rests = record {
      idle = hit.doing;
      empty = hit.hand;
      named = λ e. ready.named (sym (hit.sees.share ∙ sees.share) ∙ e);
      near = subst (λ l. Near slots l.rooms) (sym (hit.free ∙ free)) ready.near;
    };
    free = hit.free ∙ free;
    sees = then_pushed_all m.0 l.0 k.0 (elements_then before x) sees hit.sees;
    ends = ends_all_as (elements_then before x) (read ≡ 0) (IsTrue (eqb read 0)) (name l.0) (name m.0) k.0.known.seen (ap first_name sees.share) (is_zero read) hit.ends;
  }

  pub fails_all_once : (slots first last read : ℕ) (before : List (ℕ × E)) (x : E) (m l k : SeatState E) → IsReadyAll slots first before last x m → l.0.free ≡ m.0.free → Sees m.0 (Load (name m.0) ∷ []) l.0
      → HasFailedAll slots (all_then before last x) (l.0, chain_then before last x read) k → HasKept slots first before last x k × HasMissed m k
  fails_all_once slots first last read before x m l k ready free sees failed = (
    record {
      ready = record {
        rooms = ap (λ d. held_rooms d) failed.doing ∙ map-append (λ (z : ℕ × E). z.0) before ((last, x) ∷ []);
        link = read;
        hand = failed.hand;
        first_is = ready.first_is;
        named = λ e. ready.named (sym (failed.sees.share ∙ sees.share) ∙ e);
        near = subst (λ l. Near slots l.rooms) (sym (failed.free ∙ free)) ready.near;
        inside = ready.inside;
      };
      doing = failed.doing;
      few = failed.few;
    },
    record { free = failed.free ∙ free; sees = then_missed m.0 l.0 k.0 sees failed.sees; overtaken = failed.overtaken },
  )

  tried_pushed_all : (v w k : View E) (es : List E) → Tried v w → Sees w (Load (name w) ∷ pushes_of (name w) es) k → (tries : ℕ) × Sees v (replicate (suc tries) (Load (name v)) ++ pushes_of (name v) es) k
  tried_pushed_all v w k es (inl e) s = (0, subst (λ (p : Known (Event Name E)). Grown actor (λ h. Legal h) p (Load (first_name p.share) ∷ pushes_of (first_name p.share) es) k.known) e s)
  tried_pushed_all v w k es (inr t) s = (suc t.0, loads_then v w k (suc t.0) (λ n. pushes_of n es) t.1 s)

  pub settles_all_at : (slots : ℕ) (es : List E) (first : Bool) (m w k : SeatState E) → Tried m.0 w.0 → w.0.free ≡ m.0.free → SettlesAllAt slots 1 es first w k → (tries : ℕ) × SettlesAllAt slots (suc tries) es first m k
  settles_all_at slots es first m w k tried free s =
      let t = tried_pushed_all m.0 w.0 k.0 es tried s.sees in (
        t.0,
        record {
          rests = s.rests;
          free = s.free ∙ free;
          sees = t.1;
          ends = subst (λ n. EndsPushedAll es (IsTrue first) n k.0.known.seen) (tried_name m.0 w.0 tried) s.ends;
        },
      )

  -- ---- a whole push
  pub pushed_all : (slots first tries last : ℕ) (before : List (ℕ × E)) (x : E) (none : Bool) (m f k : SeatState E) → HasFilled slots first before last x m f → SettlesAllAt slots tries (elements_then before x) none f k
      → HasPushedAll tries (elements_then before x) none m k
  pushed_all slots first tries last before x none m f k filled s = record {
    free = filled.rooms ∙ ap (λ (c : FreeChain). length (elements_then before x) + length c.rooms) (sym s.free);
    sees = subst (λ (p : Known (Event Name E)). Grown actor (λ h. Legal h) p (replicate tries (Load (first_name p.share)) ++ pushes_of (first_name p.share) (elements_then before x)) k.0.known) filled.known s.sees;
    ends = subst (λ (p : Known (Event Name E)). EndsPushedAll (elements_then before x) (IsTrue none) (first_name p.share) k.0.known.seen) filled.known s.ends;
  }

  pub pushed_later : (slots tries : ℕ) (es : List E) (none : Bool) (m f k : SeatState E) → HasMissed m f → SettlesAllAt slots (suc tries) es none f k → SettlesAllAt slots (suc (suc tries)) es none m k
  pushed_later slots tries es none m f k missed s = record {
    rests = s.rests;
    free = s.free ∙ missed.free;
    sees = loads_then m.0 f.0 k.0 1 (λ n. replicate tries (Load n) ++ pushes_of n es) missed.sees s.sees;
    ends = subst (λ n. EndsPushedAll es (IsTrue none) n k.0.known.seen) (ap first_name missed.sees.share) s.ends;
  }

  -- there was nothing to push, and it looked
  pub pushed_none : (none : Bool) (m k : SeatState E) → Sees m.0 (Load (name m.0) ∷ []) k.0 → EndsLooked (IsTrue none) (name m.0) k.0.known.seen → k.0.free ≡ m.0.free → HasPushedAll 1 [] none m k
  pushed_none none m k sees looked free = record {
    free = let same = ap (λ (c : FreeChain). length c.rooms) free in omega arith;
    sees = sees;
    ends = record {
      before = looked.before ++ (true, Load (name m.0)) ∷ [];
      is = looked.is ∙ sym (append-nil (looked.before ++ (true, Load (name m.0)) ∷ []));
      first =
          let still : held (plain (looked.before ++ (true, Load (name m.0)) ∷ [])) ≡ held (plain looked.before) = ap (λ z. held z) (plain_append looked.before ((true, Load (name m.0)) ∷ [])) ∙ held_more (plain looked.before) (Load (name m.0)) in
          (λ b. still ∙ looked.none.0 b, λ e. looked.none.1 (sym still ∙ e));
    };
  }

  -- ---- a failed try hands all back
  in_use_null : (xs : List (ℕ × E)) → in_use_to xs 0 ≡ in_use xs
  in_use_null [] = refl
  in_use_null (x ∷ xs) = λ i. (x.0, filled x.1 (leads_null xs i)) ∷ in_use_null xs i
    where
      leads_null : (ys : List (ℕ × E)) → leads (rooms_of ys) 0 ≡ start ys
      leads_null [] = refl
      leads_null (y ∷ ys) = refl

  taking_then : (before : List (ℕ × E)) (r : ℕ) (x : E) → taking (all_then before r x) ≡ Walking (all_then before r x)
  taking_then [] r x = refl
  taking_then (y ∷ ys) r x = refl

  -- the last room leads to null, and its slot is the last in hand
  pub kept_taken : (slots first last : ℕ) (before : List (ℕ × E)) (x : E) (a t : SeatState E) → HasKept slots first before last x a → t.0 ≡ a.0 → t.1 ≡ turned ((last, filled x 0) ∷ in_use_to before (suc last)) → HasTaken slots first t × (to_hand_out t.0.doing ≡ all_then before last x)
  kept_taken slots first last before x a t kept same hand =
      let all = all_then before last x in
      let doing = ap (λ v. v.doing) same ∙ kept.doing in
      let out : to_hand_out t.0.doing ≡ all = ap to_hand_out doing in (
        record {
          at_is = kept.ready.first_is ∙ (sym (start_onto before ((last, x) ∷ [])) ∙ ap start (sym out));
          walks = subst (λ xs. IsWalking slots xs t) (sym out) record {
            doing = doing ∙ sym (taking_then before last x);
            hand = hand ∙ (sym (in_use_last before last 0 x) ∙ in_use_null all);
            chain = subst (Near slots) (sym (map-append (λ (z : ℕ × E). z.0) before ((last, x) ∷ []))) kept.ready.inside;
            few = kept.few;
            named = λ e. kept.ready.named (sym (ap (λ v. v.known.share) same) ∙ e);
            near = subst (λ v. Near slots v.free.rooms) (sym same) kept.ready.near;
          };
        },
        out,
      )

  pub backed : (slots first last : ℕ) (before : List (ℕ × E)) (x : E) (m f a t k : SeatState E) → HasFilled slots first before last x m f → HasMissed f a → t.0 ≡ a.0 → to_hand_out t.0.doing ≡ all_then before last x → EmptiesHand slots t k → HasBacked m k
  backed slots first last before x m f a t k had missed same out back =
      let known : k.0.known ≡ a.0.known = back.known ∙ ap (λ v. v.known) same in
      let free : t.0.free ≡ f.0.free = ap (λ v. v.free) same ∙ missed.free in record {
        free =
            let one = back.free in
            let two = had.rooms in
            let three = ap (λ (l : FreeChain). length l.rooms) free in
            let four = ap (λ (l : List (ℕ × E)). length l) out in
            let five = length-append before ((last, x) ∷ []) in
            let six = length-append (room_elements before) (x ∷ []) in
            let seven = length_elements before in omega arith;
        sees = subst (λ (p : Known (Event Name E) × Known (Event Name E)). Grown actor (λ h. Legal h) p.0 (Load (first_name p.0.share) ∷ []) p.1) (λ i. (had.known i, sym known i)) missed.sees;
        overtaken = subst (λ (p : Known (Event Name E)). IsOvertaken p.seen) (sym known) missed.overtaken;
      }

  pub elements_of_all : (before : List (ℕ × E)) (r : ℕ) (x : E) → room_elements (all_then before r x) ≡ elements_then before x
  elements_of_all before r x = elements_onto before ((r, x) ∷ [])
