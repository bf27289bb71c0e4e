-- Several tries that one party runs alone.
use Rattle.std.proofs.Common.{◌≡◌, ◌≢◌, ℕ, zero, suc, ◌≤◌, true, List, [], ◌∷◌, ◌++◌, length, drop, reverse, refl, ap, sym, ◌∙◌, subst, append_assoc, append-nil, arith}
use Rattle.std.specs.Prelude.{Option, Some, None, Ok, Err, slice_get}
use Rattle.std.proofs.Common.{take as front}
use Rattle.std.proofs.lemmas.List.{reverse-append, take_all}
use native.Mathlib.Decide.{ℕ_discrete}
use Rattle.cordyceps_queue.specs.declared.cores.stage.Stage.{Stage}
use Rattle.cordyceps_queue.specs.declared.cores.stage.Stage.TheVariants.{Rest, Holding}
use Rattle.cordyceps_queue.specs.declared.cores.steps.QueueStep.TheVariants as step
use Rattle.cordyceps_queue.specs.declared.cores.steps.QueueAnswer.{QueueAnswer}
use Rattle.cordyceps_queue.specs.declared.cores.steps.QueueAnswer.TheVariants as answer
use Rattle.cordyceps_queue.specs.declared.cores.steps.TryDequeueError.{TryDequeueError}
use Rattle.cordyceps_queue.specs.declared.cores.steps.TryDequeueError.TheVariants as error
use Rattle.cordyceps_queue.specs.History.{Event, Take, Busy, Look, Out, Free, held, holder, swaps_by, links_by, IsBlocked, outs, is_swap, is_link}
use Rattle.cordyceps_queue.specs.Past as past
use Rattle.cordyceps_queue.specs.Cores.Machine.{Machine, Outcome, events_of, after_step_at, after_step, take}
use Rattle.cordyceps_queue.specs.Cores.CoreMeets.{CoreMeets}
use Rattle.cordyceps_queue.specs.Cores.Alone.{found_of, may_dequeue, tries, try_events, Finds}
use Rattle.cordyceps_queue.specs.Cores.Drain.{Drained, came_out, stop_of, drain_goes_on, after_drain, hands_back, drains_first, after_drain_at, batch_of, oldest, NobodyPending, NobodyElse, drain_events, batch_events, last_look, Stops, Drains}
use Rattle.cordyceps_queue.proofs.HistoryEnds.{count-append}
use Rattle.cordyceps_queue.proofs.CoreTheory.AloneDequeue.{held_take, still_blocked, no_right, holds_right}
use Rattle.cordyceps_queue.proofs.Legality.{held_of}
use Rattle.cordyceps_shared.proofs.ListWrites.{slice_get-set_same}
use Rattle.cordyceps_queue.proofs.CoreTheory.CoreKeeps.{core_steps}
use Rattle.cordyceps_queue.proofs.CoreTheory.AloneTry.{IsFinal, step_met, tries_law}

module _ {E : Type 0} where
  -- what a holder's tries come to
  pub record Law (h : List (Event ℕ E)) (p n : ℕ) (t : ℕ) (d : Drained E) : Type 0 where
    pub meets : CoreMeets (h ++ drain_events p (came_out d) (stop_of d)) d.0
    pub took : Drains h p n (Some (Holding t)) (came_out d) (stop_of d)
    pub holds : (u : ℕ) × (slice_get d.0.parties p ≡ Some (Holding u))
    pub free : stop_of d ≢ Some error.Busy

  -- what is held after a try that gave an element
  gone : (h : List (Event ℕ E)) (p : ℕ) (e : E) (m m2 : Machine E) → CoreMeets h m → CoreMeets (h ++ Look p ∷ Out p e ∷ []) m2 → held (h ++ Look p ∷ Out p e ∷ []) ≡ drop 1 (held h)
  gone h p e m m2 was is =
      let turned : reverse (h ++ Look p ∷ Out p e ∷ []) ≡ Out p e ∷ Look p ∷ reverse h = reverse-append h (Look p ∷ Out p e ∷ []) in
      held_of (h ++ Look p ∷ Out p e ∷ []) is.meets.legal ∙ (ap (λ l. past.held_reversed l) turned ∙ ap (drop 1) (sym (held_of h was.meets.legal)))

  one_more : (p : ℕ) (e : E) (es : List E) (stop : Option TryDequeueError) → drain_events p (e ∷ es) stop ≡ Look p ∷ Out p e ∷ drain_events p es stop
  one_more p e es None = refl
  one_more p e es (Some why) = refl

  stops_more : (h : List (Event ℕ E)) (p n t u : ℕ) (e : E) (es : List E) (stop : Option TryDequeueError) → held h ≡ e ∷ held (h ++ Look p ∷ Out p e ∷ []) →
      Stops (h ++ Look p ∷ Out p e ∷ []) p n (Some (Holding u)) es stop → (stop ≢ Some error.Busy) → Stops h p (suc n) (Some (Holding t)) (e ∷ es) stop
  stops_more h p n t u e es None left s not = ap suc s
  stops_more h p n t u e es (Some error.Empty) left s not = left ∙ ap (λ z. e ∷ z) s
  stops_more h p n t u e es (Some error.Inconsistent) left s not =
      subst (IsBlocked ℕ_discrete) (append_assoc h (Look p ∷ Out p e ∷ []) (outs p es ++ Look p ∷ [])) s
  stops_more h p n t u e es (Some error.Busy) left s not = absurd (not refl)

  -- from the answer of the first try on
  next : (n : ℕ) → ((h : List (Event ℕ E)) (m : Machine E) (p t : ℕ) → CoreMeets h m → slice_get m.parties p ≡ Some (Holding t) → Law h p n t (after_drain p n m)) →
      (h : List (Event ℕ E)) (m : Machine E) (p t : ℕ) → CoreMeets h m → (out : Machine E) (a : QueueAnswer E) → IsFinal a → CoreMeets (h ++ try_events p (found_of (Ok a))) out →
      Finds h p (found_of (Ok a)) → (u : ℕ) × (slice_get out.parties p ≡ Some (Holding u)) → Law h p (suc n) t (drain_goes_on (after_drain p n) out (found_of (Ok a)))
  next n rest h m p t was out answer.Done f met finds holds = absurd f
  next n rest h m p t was out answer.Taken f met finds holds = absurd f
  next n rest h m p t was out answer.Busy f met finds holds = absurd f
  next n rest h m p t was out (answer.Out e) f met finds holds =
      let L = rest (h ++ Look p ∷ Out p e ∷ []) out p holds.0 met holds.1 in
      let d = after_drain p n out in
      let left : held h ≡ e ∷ held (h ++ Look p ∷ Out p e ∷ []) = finds.1 ∙ ap (λ z. e ∷ z) (ap (drop 1) (sym finds.1) ∙ sym (gone h p e m out was met)) in
      record {
        meets = subst (λ l. CoreMeets l d.0) (append_assoc h (Look p ∷ Out p e ∷ []) (drain_events p (came_out d) (stop_of d)) ∙ ap (λ l. h ++ l) (sym (one_more p e (came_out d) (stop_of d)))) L.meets;
        took = record {
          rest = L.took.rest;
          front = left ∙ ap (λ z. e ∷ z) L.took.front;
          few = let f = L.took.few in omega arith;
          stops = stops_more h p n t holds.0 e (came_out d) (stop_of d) left L.took.stops L.free;
        };
        holds = L.holds;
        free = L.free;
      }
  next n rest h m p t was out answer.Empty f met finds holds = record {
    meets = met;
    took = record { rest = held h; front = refl; few = omega arith; stops = finds };
    holds = holds;
    free = λ e. let no : ⊥ = cc in no;
  }
  next n rest h m p t was out answer.Inconsistent f met finds holds = record {
    meets = met;
    took = record { rest = held h; front = refl; few = omega arith; stops = still_blocked h p out (Some (Holding t)) refl met finds };
    holds = holds;
    free = λ e. let no : ⊥ = cc in no;
  }

  pub law : (n : ℕ) (h : List (Event ℕ E)) (m : Machine E) (p t : ℕ) → CoreMeets h m → slice_get m.parties p ≡ Some (Holding t) → Law h p n t (after_drain p n m)
  law zero h m p t was at = record {
    meets = subst (λ l. CoreMeets l m) (sym (append-nil h)) was;
    took = record { rest = held h; front = refl; few = omega arith; stops = refl };
    holds = (t, at);
    free = λ e. let no : ⊥ = cc in no;
  }
  law (suc n) h m p t was at =
      let T = tries_law p 6 h m (Holding t) at tt (omega arith) (subst (λ l. CoreMeets l m) (sym (append-nil h)) was) in
      subst (λ r. Law h p (suc n) t (drain_goes_on (after_drain p n) (tries p 6 m).0 (found_of r))) (sym T.is) (next n (law n) h m p t was (tries p 6 m).0 T.answer T.final T.meets T.finds T.holds)

  -- what a call comes to
  pub record Whole (h : List (Event ℕ E)) (p n : ℕ) (stage : Option Stage) (d : Drained E) : Type 0 where
    pub meets : CoreMeets (h ++ batch_events p stage (came_out d) (stop_of d)) d.0
    pub took : Drains h p n stage (came_out d) (stop_of d)

  rest_events : (p : ℕ) (es : List E) (stop : Option TryDequeueError) → stop ≢ Some error.Busy → batch_events p (Some Rest) es stop ≡ Take p ∷ drain_events p es stop ++ Free p ∷ []
  rest_events p es None f = refl
  rest_events p es (Some error.Empty) f = refl
  rest_events p es (Some error.Inconsistent) f = refl
  rest_events p es (Some error.Busy) f = absurd (f refl)

  stops_before : (h : List (Event ℕ E)) (p n t : ℕ) (es : List E) (stop : Option TryDequeueError) → stop ≢ Some error.Busy → Stops (h ++ Take p ∷ []) p n (Some (Holding t)) es stop → Stops h p n (Some Rest) es stop
  stops_before h p n t es None f s = s
  stops_before h p n t es (Some error.Empty) f s = sym (held_take h p) ∙ s
  stops_before h p n t es (Some error.Inconsistent) f s = subst (IsBlocked ℕ_discrete) (append_assoc h (Take p ∷ []) (outs p es ++ Look p ∷ [])) s
  stops_before h p n t es (Some error.Busy) f s = absurd (f refl)

  -- the right was free
  whole_taken : (n : ℕ) (h : List (Event ℕ E)) (m : Machine E) (p t : ℕ) → CoreMeets (h ++ Take p ∷ []) m → slice_get m.parties p ≡ Some (Holding t) → Whole h p n (Some Rest) (hands_back p (after_drain p n m))
  whole_taken n h m p t was at =
      let L = law n (h ++ Take p ∷ []) m p t was at in
      let d = after_drain p n m in
      let H : List (Event ℕ E) = (h ++ Take p ∷ []) ++ drain_events p (came_out d) (stop_of d) in
      let K = core_steps H d.0 p step.Give L.meets in
      let given : CoreMeets (H ++ Free p ∷ []) (after_step d.0 p step.Give).0 =
      subst (λ l. CoreMeets (H ++ l) (after_step d.0 p step.Give).0) (ap (λ o. events_of p d.0.rooms o step.Give (after_step_at d.0 p o step.Give).1) L.holds.1) K.0 in
      let whole : H ++ Free p ∷ [] ≡ h ++ batch_events p (Some Rest) (came_out d) (stop_of d) =
      append_assoc (h ++ Take p ∷ []) (drain_events p (came_out d) (stop_of d)) (Free p ∷ []) ∙ (append_assoc h (Take p ∷ []) (drain_events p (came_out d) (stop_of d) ++ Free p ∷ [])
      ∙ ap (λ l. h ++ l) (sym (rest_events p (came_out d) (stop_of d) L.free))) in
      record {
        meets = subst (λ l. CoreMeets l (after_step d.0 p step.Give).0) whole given;
        took = record {
          rest = L.took.rest;
          front = sym (held_take h p) ∙ L.took.front;
          few = L.took.few;
          stops = stops_before h p n t (came_out d) (stop_of d) L.free L.took.stops;
        };
      }

  whole_rest : (n : ℕ) (h : List (Event ℕ E)) (m : Machine E) (p : ℕ) → CoreMeets h m → slice_get m.parties p ≡ Some Rest → (o : Option ℕ) → m.right ≡ o → Whole h p n (Some Rest) (drains_first p n (take m p o).0 (take m p o).1)
  whole_rest n h m p was at None right =
      let K = step_met h m p Rest at step.Take answer.Busy (ap (λ o. (take m p o).1) right) was in
      let (by, held_by, other) = K.1 in
      record {
        meets = subst (λ (k : Machine E). CoreMeets (h ++ Busy p ∷ []) k) (ap (λ o. (take m p o).0) right) K.0;
        took = record { rest = held h; front = refl; few = omega arith; stops = (refl, by, held_by, other) };
      }
  whole_rest n h m p was at (Some t) right =
      let K = step_met h m p Rest at step.Take answer.Taken (ap (λ o. (take m p o).1) right) was in
      let met : CoreMeets (h ++ Take p ∷ []) (take m p (Some t)).0 = subst (λ (k : Machine E). CoreMeets (h ++ Take p ∷ []) k) (ap (λ o. (take m p o).0) right) K.0 in
      whole_taken n h (take m p (Some t)).0 p t met (slice_get-set_same m.parties p (Holding t) Rest at)

  whole_at : (n : ℕ) (h : List (Event ℕ E)) (m : Machine E) (p : ℕ) → CoreMeets h m → (stage : Option Stage) → slice_get m.parties p ≡ stage → may_dequeue stage ≡ true → Whole h p n stage (after_drain_at p n m stage)
  whole_at n h m p was (Some Rest) at may =
      subst (λ out. Whole h p n (Some Rest) (drains_first p n out.0 out.1)) (sym (ap (λ o. after_step_at m p o step.Take) at)) (whole_rest n h m p was at m.right refl)
  whole_at n h m p was (Some (Holding t)) at may = let L = law n h m p t was at in record { meets = L.meets; took = L.took }
  whole_at n h m p was stage at may = let no : ⊥ = cc in absurd no

  pub batch_law : (n : ℕ) (h : List (Event ℕ E)) (m : Machine E) (p : ℕ) → CoreMeets h m → may_dequeue (slice_get m.parties p) ≡ true → Whole h p n (slice_get m.parties p) (after_drain_at p n m (slice_get m.parties p))
  batch_law n h m p was may = whole_at n h m p was (slice_get m.parties p) refl may

  -- elements that came out before, and then those that came out
  abbrev pub after_items : List E → Drained E → Drained E
  after_items es d = record d { 1 = es ++ d.1 }

  -- a try of a holder that gave an element
  pub record Gave (h : List (Event ℕ E)) (p : ℕ) (m : Machine E) (e : E) : Type 0 where
    pub meets : CoreMeets (h ++ Look p ∷ Out p e ∷ []) m
    pub holds : (u : ℕ) × (slice_get m.parties p ≡ Some (Holding u))
    pub left : held h ≡ e ∷ held (h ++ Look p ∷ Out p e ∷ [])

  pub gave : (h : List (Event ℕ E)) (m : Machine E) (p t : ℕ) (e : E) → CoreMeets h m → slice_get m.parties p ≡ Some (Holding t) → found_of (tries p 6 m).1 ≡ Ok e → Gave h p (tries p 6 m).0 e
  gave h m p t e was at is =
      let T = tries_law p 6 h m (Holding t) at tt (omega arith) (subst (λ l. CoreMeets l m) (sym (append-nil h)) was) in
      let same : found_of (Ok T.answer) ≡ Ok e = ap found_of (sym T.is) ∙ is in
      let met = subst (λ f. CoreMeets (h ++ try_events p f) (tries p 6 m).0) same T.meets in
      let finds = subst (Finds h p) same T.finds in
      record {
        meets = met;
        holds = T.holds;
        left = finds.1 ∙ ap (λ z. e ∷ z) (ap (drop 1) (sym finds.1) ∙ sym (gone h p e m (tries p 6 m).0 was met));
      }

  pub after_more : (p k : ℕ) (items : List E) (m : Machine E) (e : E) → found_of (tries p 6 m).1 ≡ Ok e → after_items (items ++ e ∷ []) (after_drain p k (tries p 6 m).0) ≡ after_items items (after_drain p (suc k) m)
  after_more p k items m e is =
      let d = after_drain p k (tries p 6 m).0 in
      ap (λ es. record d { 1 = es }) (append_assoc items (e ∷ []) d.1) ∙ ap (after_items items) (sym (ap (drain_goes_on (after_drain p k) (tries p 6 m).0) is))

  pub after_last : (p k : ℕ) (items : List E) (m : Machine E) (why : TryDequeueError) → found_of (tries p 6 m).1 ≡ Err why → ((tries p 6 m).0, items, Some why) ≡ after_items items (after_drain p (suc k) m)
  after_last p k items m why is =
      ap (λ es. ((tries p 6 m).0, es, Some why)) (sym (append-nil items)) ∙ ap (after_items items) (sym (ap (drain_goes_on (after_drain p k) (tries p 6 m).0) is))

  -- the right was free, and is taken
  pub record Took (h : List (Event ℕ E)) (p : ℕ) (m : Machine E) : Type 0 where
    pub meets : CoreMeets (h ++ Take p ∷ []) m
    pub held_is : held (h ++ Take p ∷ []) ≡ held h
    pub holds : (t : ℕ) × (slice_get m.parties p ≡ Some (Holding t))

  right_was : (m : Machine E) (p : ℕ) (o : Option ℕ) → (take m p o).1 ≡ Ok answer.Taken → slice_get m.parties p ≡ Some Rest → (t : ℕ) × (slice_get (take m p o).0.parties p ≡ Some (Holding t))
  right_was m p None took at = let no : ⊥ = cc in absurd no
  right_was m p (Some t) took at = (t, slice_get-set_same m.parties p (Holding t) Rest at)

  pub taken_first : (h : List (Event ℕ E)) (m : Machine E) (p : ℕ) → CoreMeets h m → slice_get m.parties p ≡ Some Rest → (after_step m p step.Take).1 ≡ Ok answer.Taken → Took h p (after_step m p step.Take).0
  taken_first h m p was at took =
      let took_at : (take m p m.right).1 ≡ Ok answer.Taken = sym (ap (λ o. (after_step_at m p o step.Take).1) at) ∙ took in
      subst (Took h p) (sym (ap (λ o. (after_step_at m p o step.Take).0) at)) record {
        meets = (step_met h m p Rest at step.Take answer.Taken took_at was).0;
        held_is = held_take h p;
        holds = right_was m p m.right took_at at;
      }

  -- ---- what a call returns
  take_front : (es rest : List E) → front (length es) (es ++ rest) ≡ es
  take_front [] rest = refl
  take_front (e ∷ es) rest = ap (λ z. e ∷ z) (take_front es rest)

  -- `Look` and `Take` swap and link nothing
  looks_swap : (q p : ℕ) (es : List E) → swaps_by ℕ_discrete q (outs p es ++ Look p ∷ []) ≡ 0
  looks_swap q p [] = refl
  looks_swap q p (e ∷ es) = looks_swap q p es

  looks_link : (q p : ℕ) (es : List E) → links_by ℕ_discrete q (outs p es ++ Look p ∷ []) ≡ 0
  looks_link q p [] = refl
  looks_link q p (e ∷ es) = looks_link q p es

  last_swap : (q p : ℕ) (stage : Option Stage) (es : List E) → swaps_by ℕ_discrete q (last_look p stage es) ≡ 0
  last_swap q p (Some Rest) es = looks_swap q p es
  last_swap q p stage es = looks_swap q p es

  last_link : (q p : ℕ) (stage : Option Stage) (es : List E) → links_by ℕ_discrete q (last_look p stage es) ≡ 0
  last_link q p (Some Rest) es = looks_link q p es
  last_link q p stage es = looks_link q p es

  stops_oldest : (h : List (Event ℕ E)) (p n : ℕ) (stage : Option Stage) (es rest : List E) (stop : Option TryDequeueError) → 1 ≤ n → held h ≡ es ++ rest → length es ≤ n → Stops h p n stage es stop →
      NobodyPending h → NobodyElse h p → batch_of es stop ≡ oldest n (held h)
  stops_oldest h p n stage [] rest None some first few s still mine = absurd (omega (arith, s, some))
  stops_oldest h p n stage (e ∷ es) rest None some first few s still mine =
      let all : front n (e ∷ es ++ rest) ≡ e ∷ es = ap (λ k. front k (e ∷ es ++ rest)) (sym s) ∙ take_front (e ∷ es) rest in
      ap Ok (sym all) ∙ sym (ap (oldest n) first)
  stops_oldest h p n stage [] rest (Some error.Empty) some first few s still mine = sym (ap (oldest n) s)
  stops_oldest h p n stage (e ∷ es) rest (Some error.Empty) some first few s still mine =
      ap Ok (sym (take_all n (e ∷ es) few)) ∙ sym (ap (oldest n) s)
  stops_oldest h p n stage es rest (Some error.Inconsistent) some first few s still mine =
      let l = last_look p stage es in
      absurd (still s.by (omega (arith, s.pending, count-append ℕ_discrete is_swap s.by h l, count-append ℕ_discrete is_link s.by h l, last_swap s.by p stage es, last_link s.by p stage es)))
  stops_oldest h p n stage es rest (Some error.Busy) some first few s still mine = let (_, by, held, other) = s in absurd (other (mine by held))

  pub oldest_law : (h : List (Event ℕ E)) (m : Machine E) (p n : ℕ) → CoreMeets h m → may_dequeue (slice_get m.parties p) ≡ true → 1 ≤ n → NobodyPending h → NobodyElse h p →
      let d = after_drain_at p n m (slice_get m.parties p) in batch_of (came_out d) (stop_of d) ≡ oldest n (held h)
  oldest_law h m p n was may some still mine =
      let W = batch_law n h m p was may in
      let d = after_drain_at p n m (slice_get m.parties p) in
      stops_oldest h p n (slice_get m.parties p) (came_out d) W.took.rest (stop_of d) some W.took.front W.took.few W.took.stops still mine

  -- where another party has the right
  held_rest : (h : List (Event ℕ E)) (m : Machine E) (p q n : ℕ) → CoreMeets h m → holder h ≡ Some q → (o : Option ℕ) → m.right ≡ o →
      let d = drains_first p n (take m p o).0 (take m p o).1 in batch_of (came_out d) (stop_of d) ≡ Err error.Busy
  held_rest h m p q n was held None right = refl
  held_rest h m p q n was held (Some t) right = absurd (no_right h m q t was held right)

  held_at : (h : List (Event ℕ E)) (m : Machine E) (p q n : ℕ) → CoreMeets h m → holder h ≡ Some q → p ≢ q → (stage : Option Stage) → slice_get m.parties p ≡ stage → may_dequeue stage ≡ true →
      let d = after_drain_at p n m stage in batch_of (came_out d) (stop_of d) ≡ Err error.Busy
  held_at h m p q n was held ne (Some Rest) at may =
      subst (λ (out : Outcome E). let d = drains_first p n out.0 out.1 in batch_of (came_out d) (stop_of d) ≡ Err error.Busy) (sym (ap (λ o. after_step_at m p o step.Take) at)) (held_rest h m p q n was held m.right refl)
  held_at h m p q n was held ne (Some (Holding t)) at may = absurd (ne (holds_right h m p q t was held at))
  held_at h m p q n was held ne stage at may = let no : ⊥ = cc in absurd no

  pub held_law : (h : List (Event ℕ E)) (m : Machine E) (p q n : ℕ) → CoreMeets h m → holder h ≡ Some q → p ≢ q → may_dequeue (slice_get m.parties p) ≡ true →
      let d = after_drain_at p n m (slice_get m.parties p) in batch_of (came_out d) (stop_of d) ≡ Err error.Busy
  held_law h m p q n was held ne may = held_at h m p q n was held ne (slice_get m.parties p) refl may
