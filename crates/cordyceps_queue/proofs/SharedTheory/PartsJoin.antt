-- What a party that took the right holds, and what a try comes to.
use Rattle.std.proofs.Common.{◌≡◌, ◌≢◌, ℕ, zero, suc, ◌<◌, ◌≤◌, length, List, [], ◌∷◌, ◌++◌, Option, Some, None, sym, refl, ap, ◌∙◌, subst, append_assoc, append-nil, inl, inr}
use Rattle.atomic_table.specs.Table.{rest}
use Rattle.cordyceps_shared.specs.FreeChains.{FreeChain, MayJoin, end_after}
use Rattle.cordyceps_shared.specs.Knowing.{Grown}
use Rattle.cordyceps_shared.specs.Shares.{Name, first_name}
use Rattle.cordyceps_shared.proofs.Places.{near_append}
use Rattle.cordyceps_shared.proofs.Choices.{some_or}
use Rattle.cordyceps_shared.proofs.StepEvents.{grown_then}
use Rattle.cordyceps_queue.specs.declared.cores.stage.Stage.{Stage}
use Rattle.cordyceps_queue.specs.declared.cores.stage.Stage.TheVariants.{Rest, Holding}
use Rattle.cordyceps_queue.specs.declared.shared.table.Tried.{Tried}
use Rattle.cordyceps_queue.specs.declared.shared.table.Tried.TheVariants.{Out, Empty, Inconsistent}
use Rattle.cordyceps_queue.specs.Shared.Parts.{AsksRight, Tries, Dequeued}
use Rattle.cordyceps_queue.specs.History.{Event, actor}
use Rattle.cordyceps_shared.specs.Places.{ItemAt}
use Rattle.cordyceps_shared.specs.Slots.{Near, TableStep, Hand}
use Rattle.cordyceps_queue.specs.Shared.Plays.{SeatState, LegalReversed, carry, MovesTo, HandsOut, HandsOneOut}
use Rattle.cordyceps_queue.specs.Shared.Plays.{IsResting, Holds, IsHolding, IsAtStage, Blocked, after_take}
use Rattle.cordyceps_queue.specs.Shared.View.{View, name, free_chain, back_chain, all_rooms}

-- the free rooms are those of before, and those in hand
near_all : (slots : ℕ) (free back now : List ℕ) → back ≡ [] → now ≡ free ++ back → Near slots free → Near slots now
near_all slots free back now bare same near i r ir = near i r (subst (λ l. ItemAt l i r) (same ∙ (ap (λ l. free ++ l) bare ∙ append-nil free)) ir)

pub near_parts : (slots : ℕ) (free now back : List ℕ) → now ≡ free → back ≡ [] → Near slots free → Near slots (now ++ back)
near_parts slots free now back same bare near = subst (Near slots) (sym (ap (λ l. now ++ l) bare ∙ (append-nil now ∙ same))) near

abbrev pub hand_of : {A : Type 0} → A → List (ℕ × Option A) → Option A
hand_of d [] = None
hand_of d (x ∷ xs) = x.1

pub none_near : (slots : ℕ) (back : List ℕ) → back ≡ [] → Near slots back
none_near slots back bare i r x = absurd (subst (λ l. ItemAt l i r) bare x)

near_one : (slots t : ℕ) → t < slots → Near slots (t ∷ [])
near_one slots t inside zero r a = subst (λ n. n < slots) (sym a) inside
near_one slots t inside (suc i) r a = absurd a

module _ {E : Type 0} where
  -- ---- all rooms of a party
  pub bare_rooms : (v : View E) → v.back ≡ [] → all_rooms v ≡ free_chain v
  bare_rooms v bare = (λ i. let c : FreeChain = record { rooms = v.free ++ bare i; end = end_after v.end (bare i) v.to } in c) ∙ (λ i. let c : FreeChain = record { rooms = append-nil v.free i; end = v.end } in c)

  pub moved_rooms : (es : List (Event Name E)) (p : Stage) (m k : SeatState E) → MovesTo es p m k
      → free_chain k.0 ≡ all_rooms m.0
  moved_rooms es p m k a i = record { rooms = a.free i; end = a.end i }

  pub moved_then : (es : List (Event Name E)) (p : Stage) (m k l : SeatState E) → MovesTo es p m k
      → free_chain l.0 ≡ all_rooms k.0 → free_chain l.0 ≡ all_rooms m.0
  moved_then es p m k l a e = e ∙ (bare_rooms k.0 a.back ∙ moved_rooms es p m k a)

  -- the party has no slot in hand, so nothing has to be linked
  pub may_join : (v : View E) → v.back ≡ [] → MayJoin (free_chain v) (back_chain v)
  may_join v bare = inr (inl bare)

  pub takes_by : (st : TableStep E) (m k : SeatState E) → IsResting st.slots m → (found : ℕ) → after_take st m found k → AsksRight st.slots found m k
  takes_by st m k q zero t =
      let b = (t q.stage).0 refl in
      let rests : IsResting st.slots k = record {
        stage = b.stage;
        back = b.back;
        hand = b.hand;
        named = λ e. q.named (sym b.sees.share ∙ e);
        near = near_all st.slots m.0.free m.0.back k.0.free q.back b.free q.near;
      } in
      (rests, b)
  takes_by st m k q (suc u) t =
      let h = (t q.stage).1 u refl in
      let b = h.0 in
      let near = near_all st.slots m.0.free m.0.back k.0.free q.back b.free q.near in
      let right : Holds st.slots u k = record {
        stage = b.stage;
        carries = b.hand ∙ ap (λ (l : List ℕ). carry l) (sym b.back);
        named = λ e. q.named (sym b.sees.share ∙ e);
        near = near_parts st.slots k.0.free k.0.free k.0.back refl b.back near;
        inside = h.1;
      } in
      (record { right = right; joins = may_join k.0 b.back }, b)

  -- one step after another, where no slot is in hand between them
  pub moves_in_turn : (es fs : List (Event Name E)) (p q : Stage) (m k l : SeatState E) → MovesTo es p m k
      → MovesTo fs q k l → MovesTo (es ++ fs) q m l
  moves_in_turn es fs p q m k l a b = record {
    stage = b.stage;
    back = b.back;
    free = b.free ∙ (ap (λ xs. k.0.free ++ xs) a.back ∙ (append-nil k.0.free ∙ a.free));
    hand = b.hand;
    sees = grown_then actor LegalReversed m.0.known k.0.known l.0.known es fs a.sees b.sees;
    end = b.end ∙ (ap (λ xs. end_after k.0.end xs k.0.to) a.back ∙ a.end);
  }

  holds_still : (slots t : ℕ) (es : List (Event Name E)) (m k : SeatState E) → m.0.known.share ≢ []
      → Near slots (m.0.free ++ m.0.back) → t < slots → MovesTo es (Holding t) m k → IsHolding slots t k
  holds_still slots t es m k named near inside a =
      let right : Holds slots t k = record {
        stage = a.stage;
        carries = a.hand ∙ ap (λ (l : List ℕ). carry l) (sym a.back);
        named = λ e. named (sym a.sees.share ∙ e);
        near = near_parts slots (m.0.free ++ m.0.back) k.0.free k.0.back a.free a.back near;
        inside = inside;
      } in
      record { right = right; joins = may_join k.0 a.back }

  -- what a try came to, after more events
  pub tries_then : (slots : ℕ) (es fs : List (Event Name E)) (p : Stage) (m k l : SeatState E) (t : ℕ) (r : Tried E)
      → MovesTo es p m k → Tries fs slots k l t r → Tries (es ++ fs) slots m l t r
  tries_then slots es fs p m k l t (Out room e) a T =
      let h = T in
      let rename = subst (λ n. Grown actor LegalReversed k.0.known (fs ++ Event.Out n e ∷ []) l.0.known)
      (ap first_name a.sees.share) h.sees in
      let out : List (Event Name E) = Event.Out (name m.0) e ∷ [] in
      let sees = grown_then actor LegalReversed m.0.known k.0.known l.0.known es (fs ++ out) a.sees rename in record {
        right = h.right;
        back = h.back;
        free = h.free ∙ (ap (λ xs. k.0.free ++ xs) a.back ∙ (append-nil k.0.free ∙ a.free));
        sees = subst (λ xs. Grown actor LegalReversed m.0.known xs l.0.known) (sym (append_assoc es fs out)) sees;
        few = h.few;
        to = h.to;
      }
  tries_then slots es fs p m k l t Empty a T =
      let end : Name → List (Event Name E) = λ n. Event.Empty n ∷ [] in (
        T.0,
        subst (λ xs. MovesTo xs (Holding t) m l) (sym (append_assoc es fs (end (name k.0)))
            ∙ ap (λ n. (es ++ fs) ++ end n) (ap first_name a.sees.share))
            (moves_in_turn es (fs ++ end (name k.0)) p (Holding t) m k l a T.1),
      )
  tries_then slots es fs p m k l t Inconsistent a T = let (holding, moves, blocked) = T in (holding, moves_in_turn es fs p (Holding t) m k l a moves, blocked)

  -- the stage of a party after a step
  pub at_stage : (slots : ℕ) (es : List (Event Name E)) (p : Stage) (m k : SeatState E) → m.0.known.share ≢ []
      → Near slots (m.0.free ++ m.0.back) → MovesTo es p m k
      → IsAtStage slots p k
  at_stage slots es p m k named near a = record {
    stage = a.stage;
    back = a.back;
    hand = a.hand;
    named = λ e. named (sym a.sees.share ∙ e);
    near = subst (Near slots) (sym a.free) near;
  }

  -- what the next step asks, of a party at a stage
  pub stage_near : (slots : ℕ) (p : Stage) (m : SeatState E) → IsAtStage slots p m → Near slots (m.0.free ++ m.0.back)
  stage_near slots p m q = near_parts slots m.0.free m.0.free m.0.back refl q.back q.near

  pub stage_hand : (slots : ℕ) (p : Stage) (m : SeatState E) → IsAtStage slots p m → m.1 ≡ carry m.0.back
  stage_hand slots p m q = q.hand ∙ ap (λ (l : List ℕ). carry l) (sym q.back)

  -- the slot was emptied after the only step
  pub hands_now : (slots t r : ℕ) (fs : List (Event Name E)) (m l o : SeatState E) (e : E) → m.0.known.share ≢ []
      → Near slots (m.0.free ++ m.0.back) → (h : HandsOut fs slots t r m l) → o ≡ (l.0, (t, None) ∷ rest l.1)
      → h.element ≡ e → HandsOneOut fs slots t r e m o × (free_chain o.0 ≡ all_rooms m.0)
  hands_now slots t r fs m l o e named near h y same =
      let view = ap (λ (z : SeatState E). z.0) y in
      let backs = ap (λ (v : View E). v.back) view ∙ h.back in
      let frees = ap (λ (v : View E). v.free) view ∙ h.free in
      let ends = ap (λ (v : View E). v.end) view ∙ h.end in
      let hand : o.1 ≡ carry o.0.back = ap (λ (z : SeatState E). z.1) y
      ∙ (ap (λ z. (t, None) ∷ rest z) h.hand ∙ ap (λ (xs : List ℕ). carry xs) (sym backs)) in
      let all : Near slots (o.0.free ++ o.0.back) = subst (Near slots) (λ j. sym frees j ++ sym backs j)
      (near_append slots (m.0.free ++ m.0.back) (t ∷ []) near (near_one slots t h.near)) in (
        record {
          right = record {
            stage = ap (λ (v : View E). v.stage) view ∙ h.stage;
            carries = hand;
            named = λ x. named (sym h.sees.share ∙ (sym (ap (λ (v : View E). v.known.share) view) ∙ x));
            near = all;
            inside = h.inside;
          };
          back = backs;
          free = frees;
          sees = subst (λ (z : View E × E). Grown actor LegalReversed m.0.known (fs ++ Event.Out (name m.0) z.1 ∷ [])
              z.0.known) (λ j. (sym view j, same j)) h.sees;
          few = subst (λ (z : View E). length z.free ≤ slots) (sym view) h.few;
          to = ap (λ (v : View E). v.to) view ∙ h.to;
        },
        (λ i. let c : FreeChain = record { rooms = frees i; end = ends i } in c),
      )

  still : (m k : SeatState E) → m.0.back ≡ [] → k.0.back ≡ [] → k.0.free ≡ m.0.free ++ m.0.back → k.0.free ++ k.0.back ≡ m.0.free
  still m k bare bare_too moved = ap (λ z. k.0.free ++ z) bare_too ∙ (append-nil k.0.free ∙ (moved ∙ (ap (λ z. m.0.free ++ z) bare ∙ append-nil m.0.free)))

  three_still : (m k l o : SeatState E) → m.0.back ≡ [] → k.0.back ≡ [] → k.0.free ≡ m.0.free ++ m.0.back → l.0.back ≡ [] → l.0.free ≡ k.0.free ++ k.0.back → o.0.free ≡ l.0.free ++ l.0.back → o.0.free ≡ m.0.free
  three_still m k l o bare one to_one two to_two last = last ∙ (ap (λ z. l.0.free ++ z) two ∙ (append-nil l.0.free ∙ (to_two ∙ still m k bare one to_one)))

  -- a whole try
  pub whole_try : (slots u t : ℕ) (m k l o : SeatState E) (r : Tried E) → IsResting slots m
      → MovesTo (Event.Take (name m.0) ∷ []) (Holding u) m k → Tries (Event.Look (name k.0) ∷ []) slots k l t r
      → MovesTo (Event.Free (name l.0) ∷ []) Rest l o → Dequeued slots m o (Some r)
  whole_try slots u t m k l o (Out room e) q a T b =
      let h = T in
      let first : name k.0 ≡ name m.0 = ap first_name a.sees.share in
      let second : name l.0 ≡ name m.0 = ap first_name h.sees.share ∙ first in
      let x = subst (λ n. Grown actor LegalReversed k.0.known (Event.Look n ∷ Event.Out n e ∷ []) l.0.known) first
      h.sees in
      let y = subst (λ n. Grown actor LegalReversed l.0.known (Event.Free n ∷ []) o.0.known) second b.sees in
      let n = name m.0 in
      let same = still m k q.back a.back a.free in (
        b.free ∙ (λ j. (h.free ∙ same) j ++ h.back j),
        grown_then actor LegalReversed m.0.known k.0.known o.0.known (Event.Take n ∷ [])
            (Event.Look n ∷ Event.Out n e ∷ Event.Free n ∷ []) a.sees
            (grown_then actor LegalReversed k.0.known l.0.known o.0.known (Event.Look n ∷ Event.Out n e ∷ [])
            (Event.Free n ∷ []) x y),
        subst (λ (xs : List ℕ). length xs ≤ slots) (h.free ∙ same) h.few,
      )
  whole_try slots u t m k l o Empty q a T b =
      let h = T.1 in
      let first : name k.0 ≡ name m.0 = ap first_name a.sees.share in
      let second : name l.0 ≡ name m.0 = ap first_name h.sees.share ∙ first in
      let x = subst (λ n. Grown actor LegalReversed k.0.known (Event.Look n ∷ Event.Empty n ∷ []) l.0.known) first
      h.sees in
      let y = subst (λ n. Grown actor LegalReversed l.0.known (Event.Free n ∷ []) o.0.known) second b.sees in
      let n = name m.0 in (
        three_still m k l o q.back a.back a.free h.back h.free b.free,
        grown_then actor LegalReversed m.0.known k.0.known o.0.known (Event.Take n ∷ [])
            (Event.Look n ∷ Event.Empty n ∷ Event.Free n ∷ []) a.sees
            (grown_then actor LegalReversed k.0.known l.0.known o.0.known (Event.Look n ∷ Event.Empty n ∷ [])
            (Event.Free n ∷ []) x y),
      )
  whole_try slots u t m k l o Inconsistent q a T b =
      let (_, h, blocked) = T in
      let first : name k.0 ≡ name m.0 = ap first_name a.sees.share in
      let second : name l.0 ≡ name m.0 = ap first_name h.sees.share ∙ first in
      let x = subst (λ n. Grown actor LegalReversed k.0.known (Event.Look n ∷ []) l.0.known) first h.sees in
      let y = subst (λ n. Grown actor LegalReversed l.0.known (Event.Free n ∷ []) o.0.known) second b.sees in
      let n = name m.0 in (
        three_still m k l o q.back a.back a.free h.back h.free b.free,
        record {
          at = l.0;
          looks = grown_then actor LegalReversed m.0.known k.0.known l.0.known (Event.Take n ∷ []) (Event.Look n ∷ [])
              a.sees x;
          blocked = blocked;
          gives = y;
        },
      )

  -- ---- the element is taken out of the slot in hand
  same_element : (t : ℕ) (hand : Hand E) (e x : E) → hand ≡ (t, Some e) ∷ [] → hand ≡ (t, Some x) ∷ [] → e ≡ x
  same_element t hand e x a b = ap (some_or x) (ap (hand_of x) (sym a ∙ b))

  pub hands_taken : (slots t r : ℕ) (fs : List (Event Name E)) (m l o : SeatState E) (x : E) → m.0.known.share ≢ []
      → Near slots (m.0.free ++ m.0.back) → HandsOut fs slots t r m l → l.1 ≡ (t, Some x) ∷ []
      → o ≡ (l.0, (t, None) ∷ [])
      → HandsOneOut fs slots t r x m o × (free_chain o.0 ≡ all_rooms m.0)
  hands_taken slots t r fs m l o x named near h came left =
      hands_now slots t r fs m l o x named near h (left ∙ ap (λ z. (l.0, (t, None) ∷ z)) (sym (ap rest h.hand)))
      (same_element t l.1 h.element x h.hand came)

  -- a try that came to nothing, since its look was blocked
  pub tries_blocked : (slots t : ℕ) (m k : SeatState E) → m.0.known.share ≢ [] → Near slots (m.0.free ++ m.0.back)
      → t < slots → MovesTo [] (Holding t) m k × Blocked k.0 → Tries [] slots m k t Inconsistent
  tries_blocked slots t m k named near inside a = (holds_still slots t [] m k named near inside a.0, a.0, a.1)

  pub tries_empty : (slots t : ℕ) (m k : SeatState E) → m.0.known.share ≢ [] → Near slots (m.0.free ++ m.0.back)
      → t < slots → MovesTo (Event.Empty (name m.0) ∷ []) (Holding t) m k → Tries [] slots m k t Empty
  tries_empty slots t m k named near inside a = (holds_still slots t (Event.Empty (name m.0) ∷ []) m k named near inside a, a)
