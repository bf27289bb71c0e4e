-- What the calls of a shared queue promise, from what their parts leave.
use Rattle.std.proofs.Common.{◌≡◌, ◌≢◌, ℕ, suc, List, [], ◌∷◌, ◌++◌, ◌+◌, length, Bool, Option, Some, None, refl, sym, ap, ◌∙◌, subst, arith, length-append, add-one}
use Rattle.std.specs.Prelude.{Ok, Err}
use Rattle.atomic_table.specs.Seated.{TableId}
use Rattle.cordyceps_shared.specs.Histories.{plain, AllOwn}
use Rattle.cordyceps_shared.specs.Shares.{Name, whole, first_name, IsOf, IsShare}
use Rattle.cordyceps_shared.proofs.Adding.{whole_adds, plain_own}
use Rattle.cordyceps_shared.proofs.EventCounts.{of_whole}
use Rattle.cordyceps_shared.proofs.StepEvents.{grown_then}
use Rattle.cordyceps_queue.specs.declared.shared.spare.Spare.{Spare}
use Rattle.cordyceps_queue.specs.declared.shared.table.Tried.{Tried}
use Rattle.cordyceps_queue.specs.declared.shared.table.Tried.TheVariants as tried
use Rattle.cordyceps_queue.specs.declared.cores.steps.TryDequeueError.TheVariants as error
use Rattle.cordyceps_queue.specs.Shared.Parts.{standing, IsSeated, Dequeued, TracksEnd}
use Rattle.cordyceps_queue.specs.History as told
use Rattle.cordyceps_queue.specs.History.{Event, Swap, Link, Take, Busy, Look, Out, Empty, Free, actor, is_swap, is_link}
use Rattle.cordyceps_queue.specs.Shared.Plays.{SeatState, Sees, IsResting}
use Rattle.cordyceps_queue.specs.Shared.Plays as seen
use Rattle.cordyceps_queue.specs.Shared.Rule.{IsTable}
use Rattle.cordyceps_queue.specs.Shared.Calls.{same_name, Legal, Adds, BlockedAfter, Enqueues, Dequeues}
use Rattle.cordyceps_queue.specs.Shared.View.{View, name, free_chain}
use Rattle.cordyceps_queue.proofs.CoreTheory.Basics.{none_some}
use Rattle.cordyceps_queue.proofs.HistoryEnds.{count-append}
use Rattle.cordyceps_queue.proofs.Legality.{told_legal}
use Rattle.cordyceps_queue.proofs.SharedTheory.BlockedLook.{looked_blocked}
use Rattle.cordyceps_queue.proofs.SharedTheory.OwnNames.{Balanced, even_links, linked_after, unheld_after}

pub front_own : {X : Type 0} (xs ys : List (Bool × X)) → AllOwn (xs ++ ys) → AllOwn xs
front_own [] ys a = tt
front_own (x ∷ xs) ys a = (a.0, front_own xs ys a.1)

module _ {E : Type 0} where
  pub adds : (z z' : TableId) (v w : View E) (es : List (Event Name E)) → Sees v es w → z' ≡ z → Adds (standing z v) es (standing z' w)
  adds z z' v w es g at = (record { rest = g.rest; is = g.is; adds = g.adds; foreign = g.foreign; legal = told_legal same_name (plain w.known.seen) g.legal; share = g.share; alone = g.alone }, at)

  -- a party that rests again after these events of its own
  pub seated_after : (z z' t : TableId) (m k : SeatState E) (spare left : Spare) (es : List (Event Name E)) → IsSeated z m spare → z' ≡ z → z ≡ t → IsResting t.slots k → TracksEnd left (free_chain k.0) → Sees m.0 es k.0 → Balanced es → IsSeated z' k left
  seated_after z z' t m k spare left es s at there rests tracks g even = record {
    table = subst (λ q. IsTable q) (sym at) s.table;
    rests = subst (λ (q : TableId). IsResting q.slots k) (sym (at ∙ there)) rests;
    tracks = tracks;
    legal = told_legal same_name (plain k.0.known.seen) g.legal;
    alone = g.alone;
    share = subst (λ z. IsShare z) (sym g.share) s.share;
    linked = linked_after m.0 k.0 es g s.legal s.linked (λ q. (even q).0);
    unheld = unheld_after m.0 k.0 es g s.legal s.unheld (λ q. (even q).1);
  }

  -- ---- putting an element in
  pub enqueues : (z z' : TableId) (m k : SeatState E) (e : E) → m.0.back ≡ [] → k.0.back ≡ [] → z' ≡ z → length m.0.free ≡ suc (length k.0.free) → Sees m.0 (Swap (name m.0) e ∷ Link (name m.0) ∷ []) k.0 → Enqueues e (standing z m.0) (standing z' k.0)
  enqueues z z' m k e before after at free g =
      (adds z z' m.0 k.0 (Swap (name m.0) e ∷ Link (name m.0) ∷ []) g at, ap (λ (xs : List ℕ). length (xs ++ m.0.free)) before ∙ (free ∙ ap (λ (xs : List ℕ). suc (length (xs ++ k.0.free))) (sym after)))

  -- ---- a call takes one out
  same_rooms : (m k : SeatState E) → m.0.back ≡ [] → k.0.back ≡ [] → k.0.free ≡ m.0.free → length (k.0.back ++ k.0.free) ≡ length (m.0.back ++ m.0.free)
  same_rooms m k before after free = ap length ((λ i. after i ++ free i) ∙ ap (λ (xs : List ℕ). xs ++ m.0.free) (sym before))

  pub finds_busy : (z z' : TableId) (slots : ℕ) (m k : SeatState E) → m.0.back ≡ [] → k.0.back ≡ [] → z' ≡ z → Dequeued slots m k None → Dequeues (Err error.Busy) (standing z m.0) (standing z' k.0)
  finds_busy z z' slots m k before after at d = (adds z z' m.0 k.0 (Busy (name m.0) ∷ []) d.1 at, same_rooms m k before after d.0)

  pub finds_empty : (z z' : TableId) (slots : ℕ) (m k : SeatState E) → m.0.back ≡ [] → k.0.back ≡ [] → z' ≡ z → Dequeued slots m k (Some tried.Empty) → Dequeues (Err error.Empty) (standing z m.0) (standing z' k.0)
  finds_empty z z' slots m k before after at d =
      let n = name m.0 in (adds z z' m.0 k.0 (Take n ∷ Look n ∷ Empty n ∷ Free n ∷ []) d.1 at, same_rooms m k before after d.0)

  pub finds_one : (z z' : TableId) (slots room : ℕ) (m k : SeatState E) (e : E) → m.0.back ≡ [] → k.0.back ≡ [] → z' ≡ z → Dequeued slots m k (Some (tried.Out room e)) → Dequeues (Ok e) (standing z m.0) (standing z' k.0)
  finds_one z z' slots room m k e before after at d =
      let n = name m.0 in (
        adds z z' m.0 k.0 (Take n ∷ Look n ∷ Out n e ∷ Free n ∷ []) d.1 at,
        ap length (λ i. after i ++ d.0 i) ∙ (length-append m.0.free (room ∷ []) ∙ (add-one (length m.0.free) ∙ ap (λ (xs : List ℕ). suc (length (xs ++ m.0.free))) (sym before))),
      )

  inconsistent_sees : (slots : ℕ) (m k : SeatState E) → Dequeued slots m k (Some tried.Inconsistent) → Sees m.0 (Take (name m.0) ∷ Look (name m.0) ∷ Free (name m.0) ∷ []) k.0
  inconsistent_sees slots m k d =
      let n = name m.0 in grown_then actor seen.LegalReversed m.0.known d.1.at.known k.0.known (Take n ∷ Look n ∷ []) (Free n ∷ []) d.1.looks d.1.gives

  pub finds_blocked : (z z' : TableId) (slots : ℕ) (m k : SeatState E) → m.0.back ≡ [] → k.0.back ≡ [] → z' ≡ z → Dequeued slots m k (Some tried.Inconsistent) → Dequeues (Err error.Inconsistent) (standing z m.0) (standing z' k.0)
  finds_blocked z z' slots m k before after at d =
      let n = name m.0 in
      let v = d.1.at in
      let same : name v ≡ n = ap first_name d.1.looks.share in
      let first = subst (λ q. Sees m.0 (Take n ∷ Look q ∷ []) v) (sym same) d.1.looks in
      let b = looked_blocked z z' (Take n ∷ []) (Free n ∷ []) m.0 v k.0 first d.1.blocked d.1.gives in record {
        adds = adds z z' m.0 k.0 (Take n ∷ Look n ∷ Free n ∷ []) (inconsistent_sees slots m k d) at;
        rooms = same_rooms m k before after d.0;
        prefix = subst (λ q. BlockedAfter (standing z m.0) (Take n ∷ Look q ∷ []) (standing z' k.0)) same b;
      }

  -- what the party is after a try
  pub seated_then : (z z' t : TableId) (m k : SeatState E) (spare left : Spare) (r : Option (Tried E)) → IsSeated z m spare → z' ≡ z → z ≡ t → IsResting t.slots k → Dequeued t.slots m k r → TracksEnd left (free_chain k.0) → IsSeated z' k left
  seated_then z z' t m k spare left None s at there rests d tracks = seated_after z z' t m k spare left (Busy (name m.0) ∷ []) s at there rests tracks d.1 (λ q. (refl, refl))
  seated_then z z' t m k spare left (Some (tried.Out room e)) s at there rests d tracks =
      let n = name m.0 in seated_after z z' t m k spare left (Take n ∷ Look n ∷ Out n e ∷ Free n ∷ []) s at there rests tracks d.1 (λ q. (refl, refl))
  seated_then z z' t m k spare left (Some tried.Empty) s at there rests d tracks =
      let n = name m.0 in seated_after z z' t m k spare left (Take n ∷ Look n ∷ Empty n ∷ Free n ∷ []) s at there rests tracks d.1 (λ q. (refl, refl))
  seated_then z z' t m k spare left (Some tried.Inconsistent) s at there rests d tracks =
      let n = name m.0 in seated_after z z' t m k spare left (Take n ∷ Look n ∷ Free n ∷ []) s at there rests tracks (inconsistent_sees t.slots m k d) (λ q. (refl, refl))

  -- ---- a whole party's try is certain
  whole_unheld : (z : TableId) (m : SeatState E) (spare : Spare) → IsSeated z m spare → m.0.known.share ≡ whole → told.holder (plain m.0.known.seen) ≡ None
  whole_unheld z m spare s is = no_holder (told.holder (plain m.0.known.seen)) (λ q. s.unheld q (subst (λ ns. IsOf ns q) (sym is) (of_whole q)))
    where
      no_holder : (o : Option Name) → ((q : Name) → o ≢ Some q) → o ≡ None
      no_holder None never = refl
      no_holder (Some q) never = absurd (never q refl)

  pub whole_right : (z z' : TableId) (slots : ℕ) (m k : SeatState E) (spare : Spare) → IsSeated z m spare → z' ≡ z → Dequeued slots m k None → m.0.known.share ≡ whole → ⊥
  whole_right z z' slots m k spare s at d is =
      let n = name m.0 in
      let a = adds z z' m.0 k.0 (Busy n ∷ []) d.1 at in
      let all = whole_adds actor (λ h. Legal h) (standing z m.0) (standing z' k.0) (Busy n ∷ []) is a in
      let held = a.0.legal.turns (plain m.0.known.seen) [] (Busy n) all in
      none_some (sym (whole_unheld z m spare s is) ∙ held.1)

  -- as many links as swaps, of each name
  abbrev pub AllLinked : List (Event Name E) → Type 0
  AllLinked h = (q : Name) → told.links_by same_name q h ≡ told.swaps_by same_name q h

  whole_even : (z : TableId) (m : SeatState E) (spare : Spare) → IsSeated z m spare → m.0.known.share ≡ whole → AllLinked (plain m.0.known.seen)
  whole_even z m spare s is q = even_links q (plain m.0.known.seen) s.legal (s.linked q (subst (λ ns. IsOf ns q) (sym is) (of_whole q)))

  look_even : (n : Name) (h : List (Event Name E)) → AllLinked h → AllLinked (h ++ Take n ∷ Look n ∷ [])
  look_even n h e q = count-append same_name is_link q h (Take n ∷ Look n ∷ []) ∙ (ap (λ x. x + 0) (e q) ∙ sym (count-append same_name is_swap q h (Take n ∷ Look n ∷ [])))

  pub even_open : (h : List (Event Name E)) (q : Name) → AllLinked h → told.IsPending same_name q h → ⊥
  even_open h q e p = let same = e q in omega arith

  pub whole_clear : (z z' : TableId) (slots : ℕ) (m k : SeatState E) (spare : Spare) → IsSeated z m spare → z' ≡ z → m.0.back ≡ [] → k.0.back ≡ [] → Dequeued slots m k (Some tried.Inconsistent) → m.0.known.share ≡ whole → ⊥
  whole_clear z z' slots m k spare s at before after d is =
      let n = name m.0 in
      let g = inconsistent_sees slots m k d in
      let b = (finds_blocked z z' slots m k before after at d).prefix in
      let mine = front_own b.past b.later (subst (λ r. AllOwn r) b.is (g.alone (g.share ∙ is))) in
      let all : plain b.past ≡ plain m.0.known.seen ++ Take n ∷ Look n ∷ [] = plain_own b.past mine ∙ (b.adds ∙ ap (λ r. r ++ Take n ∷ Look n ∷ []) (sym (plain_own m.0.known.seen (s.alone is)))) in
      even_open (plain b.past) b.blocked.by (subst AllLinked (sym all) (look_even n (plain m.0.known.seen) (whole_even z m spare s is))) b.blocked.pending
