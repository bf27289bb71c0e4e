-- A party that takes the right to dequeue, tries while it has it, and gives it back.
use Rattle.std.proofs.Common.{◌≡◌, ℕ, suc, List, [], ◌∷◌, ◌++◌, ◌+◌, length, refl, sym, ap, ◌∙◌, subst, length-append, add_comm}
use Rattle.std.specs.Prelude.{Ok, Err}
use Rattle.std.proofs.lemmas.List.{append-nil}
use Rattle.atomic_table.specs.Seated.{TableId}
use Rattle.cordyceps_shared.specs.Histories.{plain, AllOwn}
use Rattle.cordyceps_shared.specs.Shares.{Name, whole, first_name, IsOf, IsShare}
use Rattle.cordyceps_shared.proofs.Adding.{plain_own}
use Rattle.cordyceps_shared.proofs.EventCounts.{of_whole}
use Rattle.cordyceps_queue.specs.declared.cores.stage.Stage.TheVariants.{Rest, Holding}
use Rattle.cordyceps_queue.specs.declared.shared.spare.Spare.{Spare}
use Rattle.cordyceps_queue.specs.declared.shared.table.Tried.{Tried}
use Rattle.cordyceps_queue.specs.declared.shared.table.Tried.TheVariants as tried
use Rattle.cordyceps_queue.specs.declared.cores.steps.TryDequeueError.TheVariants as error
use Rattle.cordyceps_queue.specs.Shared.Parts.{standing, IsSeated, IsConsuming, AsksRight, Tries, TracksEnd}
use Rattle.cordyceps_queue.specs.History.{Event, Take, Busy, Look, Out, Empty, Free, is_swap, is_link}
use Rattle.cordyceps_queue.specs.Shared.Plays.{SeatState, Sees, IsResting, IsHolding, MovesTo}
use Rattle.cordyceps_queue.specs.Shared.Rule.{IsTable}
use Rattle.cordyceps_queue.specs.Shared.Calls.{same_name, BlockedAfter, TakesRight, FindsBusy, GivesRight, Consumes}
use Rattle.cordyceps_queue.specs.Shared.View.{View, name, all_rooms}
use Rattle.cordyceps_queue.specs.declared.cores.stage.Stage.{Stage}
use Rattle.cordyceps_queue.proofs.SharedTheory.PartsJoin.{bare_rooms, moved_rooms}
use Rattle.cordyceps_queue.proofs.HistoryEnds.{count-append}
use Rattle.cordyceps_queue.proofs.Legality.{told_legal}
use Rattle.cordyceps_queue.proofs.SharedTheory.CallsHold.{front_own, adds, seated_after, whole_right, AllLinked, even_open}
use Rattle.cordyceps_queue.proofs.SharedTheory.OwnNames.{Neutral, even_links, linked_after, held_taken, held_after, unheld_given}
use Rattle.cordyceps_queue.proofs.SharedTheory.BlockedLook.{looked_blocked}

pub swapped : (xs ys : List ℕ) → length (xs ++ ys) ≡ length (ys ++ xs)
swapped xs ys = length-append xs ys ∙ (add_comm (length xs) (length ys) ∙ sym (length-append ys xs))

module _ {E : Type 0} where
  -- a step that gives a slot back changes no number of rooms
  moved_count : (es : List (Event Name E)) (p : Stage) (m k : SeatState E) → MovesTo es p m k
      → length (k.0.back ++ k.0.free) ≡ length (m.0.back ++ m.0.free)
  moved_count es p m k a = ap length (λ i. a.back i ++ a.free i) ∙ swapped m.0.free m.0.back

  -- ---- the right is taken
  pub busy_seated : (z z' t : TableId) (m k : SeatState E) (spare : Spare) → IsSeated z m spare → z' ≡ z → z ≡ t → AsksRight t.slots 0 m k → IsSeated z' k spare
  busy_seated z z' t m k spare s at there a =
      seated_after z z' t m k spare spare (Busy (name m.0) ∷ []) s at there a.0
      (subst (TracksEnd spare) (sym (moved_rooms (Busy (name m.0) ∷ []) Rest m k a.1 ∙ bare_rooms m.0 s.rests.back))
      s.tracks) a.1.sees (λ q. (refl, refl))

  pub finds_busy : (z z' : TableId) (slots : ℕ) (m k : SeatState E) → z' ≡ z → AsksRight slots 0 m k → FindsBusy (standing z m.0) (standing z' k.0)
  finds_busy z z' slots m k at a = (
    adds z z' m.0 k.0 (Busy (name m.0) ∷ []) a.1.sees at,
    moved_count (Busy (name m.0) ∷ []) Rest m k a.1,
  )

  pub whole_busy : (z z' : TableId) (slots : ℕ) (m k : SeatState E) (spare : Spare) → IsSeated z m spare → z' ≡ z → AsksRight slots 0 m k → m.0.known.share ≡ whole → ⊥
  whole_busy z z' slots m k spare s at a is = whole_right z z' slots m k spare s at
      (a.1.free ∙ (ap (λ l. m.0.free ++ l) s.rests.back ∙ append-nil m.0.free), a.1.sees) is

  pub right_taken : (z z' t : TableId) (tail : ℕ) (m k : SeatState E) (spare : Spare) → IsSeated z m spare → z' ≡ z → z ≡ t → AsksRight t.slots (suc tail) m k → IsConsuming z' tail k spare
  right_taken z z' t tail m k spare s at there a =
      let n = name m.0 in record {
        table = subst (λ q. IsTable q) (sym at) s.table;
        holds = subst (λ (q : TableId). IsHolding q.slots tail k) (sym (at ∙ there)) a.0;
        tracks = subst (TracksEnd spare) (sym (bare_rooms k.0 a.1.back ∙
            (moved_rooms (Take n ∷ []) (Holding tail) m k a.1 ∙ bare_rooms m.0 s.rests.back))) s.tracks;
        legal = told_legal same_name (plain k.0.known.seen) a.1.sees.legal;
        alone = a.1.sees.alone;
        share = subst (λ z. IsShare z) (sym a.1.sees.share) s.share;
        linked = linked_after m.0 k.0 (Take n ∷ []) a.1.sees s.legal s.linked (λ q. refl);
        held = held_taken m.0 k.0 a.1.sees s.legal s.unheld s.rests.named;
      }

  pub takes_right : (z z' : TableId) (slots tail : ℕ) (m k : SeatState E) → z' ≡ z → AsksRight slots (suc tail) m k → TakesRight (standing z m.0) (standing z' k.0)
  takes_right z z' slots tail m k at a = (
    adds z z' m.0 k.0 (Take (name m.0) ∷ []) a.1.sees at,
    moved_count (Take (name m.0) ∷ []) (Holding tail) m k a.1,
  )

  -- ---- the right is given back
  pub right_given : (z z' t : TableId) (tail : ℕ) (m k : SeatState E) (spare : Spare) → IsConsuming z tail m spare
      → z' ≡ z → z ≡ t → IsResting t.slots k → MovesTo (Free (name m.0) ∷ []) Rest m k → IsSeated z' k spare
  right_given z z' t tail m k spare c at there rests a = record {
    table = subst (λ q. IsTable q) (sym at) c.table;
    rests = subst (λ (q : TableId). IsResting q.slots k) (sym (at ∙ there)) rests;
    tracks = subst (TracksEnd spare) (sym (moved_rooms (Free (name m.0) ∷ []) Rest m k a)) c.tracks;
    legal = told_legal same_name (plain k.0.known.seen) a.sees.legal;
    alone = a.sees.alone;
    share = subst (λ z. IsShare z) (sym a.sees.share) c.share;
    linked = linked_after m.0 k.0 (Free (name m.0) ∷ []) a.sees c.legal c.linked (λ q. refl);
    unheld = unheld_given m.0 k.0 a.sees c.legal c.held;
  }

  pub gives_right : (z z' : TableId) (m k : SeatState E) → z' ≡ z → MovesTo (Free (name m.0) ∷ []) Rest m k
      → GivesRight (standing z m.0) (standing z' k.0)
  gives_right z z' m k at a = (
    adds z z' m.0 k.0 (Free (name m.0) ∷ []) a.sees at,
    moved_count (Free (name m.0) ∷ []) Rest m k a,
  )

  -- ---- a try
  consuming_after : (z z' t : TableId) (tail now : ℕ) (m k : SeatState E) (spare left : Spare) (es : List (Event Name E)) → IsConsuming z tail m spare → z' ≡ z → z ≡ t → IsHolding t.slots now k → TracksEnd left (all_rooms k.0) → Sees m.0 es k.0 → Neutral es → IsConsuming z' now k left
  consuming_after z z' t tail now m k spare left es c at there holds tracks g neutral = record {
    table = subst (λ q. IsTable q) (sym at) c.table;
    holds = subst (λ (q : TableId). IsHolding q.slots now k) (sym (at ∙ there)) holds;
    tracks = tracks;
    legal = told_legal same_name (plain k.0.known.seen) g.legal;
    alone = g.alone;
    share = subst (λ z. IsShare z) (sym g.share) c.share;
    linked = linked_after m.0 k.0 es g c.legal c.linked (λ q. (neutral q).0);
    held = held_after m.0 k.0 es g c.legal c.held c.holds.right.named (λ q. (neutral q).1);
  }

  pub consuming_then : (z z' t : TableId) (tail now : ℕ) (m k : SeatState E) (spare left : Spare) (r : Tried E) → IsConsuming z tail m spare → z' ≡ z → z ≡ t → IsHolding t.slots now k → Tries (Look (name m.0) ∷ []) t.slots m k now r → TracksEnd left (all_rooms k.0) → IsConsuming z' now k left
  consuming_then z z' t tail now m k spare left (tried.Out room e) c at there holds a tracks =
      let n = name m.0 in
      consuming_after z z' t tail now m k spare left (Look n ∷ Out n e ∷ []) c at there holds tracks a.sees
      (λ q. (refl, (refl, refl)))
  consuming_then z z' t tail now m k spare left tried.Empty c at there holds a tracks =
      let n = name m.0 in
      consuming_after z z' t tail now m k spare left (Look n ∷ Empty n ∷ []) c at there holds tracks a.1.sees
      (λ q. (refl, (refl, refl)))
  consuming_then z z' t tail now m k spare left tried.Inconsistent c at there holds a tracks =
      consuming_after z z' t tail now m k spare left (Look (name m.0) ∷ []) c at there holds tracks a.1.sees
      (λ q. (refl, (refl, refl)))

  pub consumes_one : (z z' : TableId) (slots now room : ℕ) (m k : SeatState E) (e : E) → z' ≡ z → Tries (Look (name m.0) ∷ []) slots m k now (tried.Out room e) → Consumes (Ok e) (standing z m.0) (standing z' k.0)
  consumes_one z z' slots now room m k e at
      a = (
        adds z z' m.0 k.0 (Look (name m.0) ∷ Out (name m.0) e ∷ []) a.sees at,
        ap length (λ i. a.back i ++ a.free i)
            ∙ ap suc (swapped m.0.free m.0.back),
      )

  pub consumes_empty : (z z' : TableId) (slots now : ℕ) (m k : SeatState E) → z' ≡ z → Tries (Look (name m.0) ∷ []) slots m k now tried.Empty → Consumes (Err error.Empty) (standing z m.0) (standing z' k.0)
  consumes_empty z z' slots now m k at a = (
    adds z z' m.0 k.0 (Look (name m.0) ∷ Empty (name m.0) ∷ []) a.1.sees at,
    moved_count (Look (name m.0) ∷ Empty (name m.0) ∷ []) (Holding now) m k a.1,
  )

  none_more : (v w : View E) (es : List (Event Name E)) → Sees v es w → Sees w [] w
  none_more v w es g = record { rest = []; is = sym (append-nil w.known.seen); adds = refl; foreign = tt; legal = g.legal; share = refl; alone = g.alone }

  pub consumes_blocked : (z z' : TableId) (slots now : ℕ) (m k : SeatState E) → z' ≡ z → Tries (Look (name m.0) ∷ []) slots m k now tried.Inconsistent → Consumes (Err error.Inconsistent) (standing z m.0) (standing z' k.0)
  consumes_blocked z z' slots now m k at a =
      let n = name m.0 in
      let (_, moves, blocked) = a in
      let same : name k.0 ≡ n = ap first_name moves.sees.share in
      let first = subst (λ q. Sees m.0 (Look q ∷ []) k.0) (sym same) moves.sees in
      let b = looked_blocked z z' [] [] m.0 k.0 k.0 first blocked (none_more m.0 k.0 (Look n ∷ []) moves.sees) in record {
        adds = adds z z' m.0 k.0 (Look n ∷ []) moves.sees at;
        rooms = moved_count (Look n ∷ []) (Holding now) m k moves;
        prefix = subst (λ q. BlockedAfter (standing z m.0) (Look q ∷ []) (standing z' k.0)) same b;
      }

  -- ---- a whole party's try is certain
  looked_even : (n : Name) (h : List (Event Name E)) → AllLinked h → AllLinked (h ++ Look n ∷ [])
  looked_even n h e q = count-append same_name is_link q h (Look n ∷ []) ∙ (ap (λ x. x + 0) (e q) ∙ sym (count-append same_name is_swap q h (Look n ∷ [])))

  pub consuming_clear : (z z' : TableId) (slots tail now : ℕ) (m k : SeatState E) (spare : Spare) → IsConsuming z tail m spare → z' ≡ z → Tries (Look (name m.0) ∷ []) slots m k now tried.Inconsistent → m.0.known.share ≡ whole → ⊥
  consuming_clear z z' slots tail now m k spare c at a is =
      let n = name m.0 in
      let g = a.1.sees in
      let b = (consumes_blocked z z' slots now m k at a).prefix in
      let mine = front_own b.past b.later (subst (λ r. AllOwn r) b.is (g.alone (g.share ∙ is))) in
      let all : plain b.past ≡ plain m.0.known.seen ++ Look n ∷ [] = plain_own b.past mine ∙ (b.adds ∙ ap (λ r. r ++ Look n ∷ []) (sym (plain_own m.0.known.seen (c.alone is)))) in
      even_open (plain b.past) b.blocked.by (subst AllLinked (sym all) (looked_even n (plain m.0.known.seen) (λ q. even_links q (plain m.0.known.seen) c.legal (c.linked q (subst (λ ns. IsOf ns q) (sym is) (of_whole q)))))) b.blocked.pending
