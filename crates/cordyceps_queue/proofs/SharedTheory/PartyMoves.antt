-- What each call put in and took out, and that nothing is lost.
use Rattle.std.proofs.Common.{◌≡◌, ℕ, List, [], ◌∷◌, ◌++◌, map, flat_map, Bool, true, false, refl, sym, ap, ◌∙◌, subst, inl, inr}
use Rattle.std.specs.Prelude.{◌⊎◌, Result, Ok, Err}
use Rattle.std.proofs.lemmas.List.{map-append, append-nil}
use Rattle.std.proofs.lemmas.List.Concat.{flat_map-append}
use Rattle.cordyceps_shared.specs.Shares.{Name}
use Rattle.cordyceps_shared.specs.Standings.{name_of}
use Rattle.cordyceps_shared.proofs.Moving.{moves_none, moves_then, moves_by}
use Rattle.cordyceps_queue.specs.declared.cores.steps.TryDequeueError.{TryDequeueError}
use Rattle.cordyceps_queue.specs.declared.cores.steps.TryDequeueError.TheVariants as error
use Rattle.cordyceps_queue.specs.History.{Event, Swap, Link, Take, Busy, Look, Out, Empty, Free, Ring, Clear, came, went, held, IsLegal, actor, outs}
use Rattle.cordyceps_queue.specs.Shared.Batches.{StopsAt, TakesLinked}
use Rattle.cordyceps_queue.specs.Shared.Bell.{RingsBell, ClearsBell, Sleeps}
use Rattle.cordyceps_queue.specs.Shared.Calls.{PartyOf, Legal, Adds, Enqueues, EnqueuesRefilled, Refills, Dequeues, Consumes, TakesRight, FindsBusy, GivesRight, Retries, AtLast, FindsFull, GivesAllBack}
use Rattle.cordyceps_queue.specs.Shared.Moves.{put_by, got_by, Moves, got_by_try}
use Rattle.cordyceps_queue.proofs.PartyOrder.{nothing_lost}

module _ {P E A : Type 0} (f : E → A) where
  -- ---- whole histories
  pub all_put : (h : List (Event P E)) → flat_map (put_by f) h ≡ map f (came h)
  all_put [] = refl
  all_put (Swap p e ∷ h) = ap (λ l. f e ∷ l) (all_put h)
  all_put (Link p ∷ h) = all_put h
  all_put (Take p ∷ h) = all_put h
  all_put (Busy p ∷ h) = all_put h
  all_put (Look p ∷ h) = all_put h
  all_put (Out p e ∷ h) = all_put h
  all_put (Empty p ∷ h) = all_put h
  all_put (Free p ∷ h) = all_put h
  all_put (Ring p ∷ h) = all_put h
  all_put (Clear p ∷ h) = all_put h

  pub all_got : (h : List (Event P E)) → flat_map (got_by f) h ≡ map f (went h)
  all_got [] = refl
  all_got (Out p e ∷ h) = ap (λ l. f e ∷ l) (all_got h)
  all_got (Link p ∷ h) = all_got h
  all_got (Take p ∷ h) = all_got h
  all_got (Busy p ∷ h) = all_got h
  all_got (Look p ∷ h) = all_got h
  all_got (Swap p e ∷ h) = all_got h
  all_got (Empty p ∷ h) = all_got h
  all_got (Free p ∷ h) = all_got h
  all_got (Ring p ∷ h) = all_got h
  all_got (Clear p ∷ h) = all_got h

  -- what came out of a legal history, and then what it holds, is what was put in
  pub all_kept : (same : Discrete P) (h : List (Event P E)) → IsLegal same h → flat_map (got_by f) h ++ map f (held h) ≡ flat_map (put_by f) h
  all_kept same h legal =
      ap (λ l. l ++ map f (held h)) (all_got h) ∙ (sym (map-append f (went h) (held h)) ∙ (ap (map f) (nothing_lost same h legal) ∙ sym (all_put h)))

  -- ---- tries that gave elements
  outs_put : (p : P) (es : List E) → flat_map (put_by f) (outs p es) ≡ []
  outs_put p [] = refl
  outs_put p (e ∷ es) = outs_put p es

  outs_got : (p : P) (es : List E) → flat_map (got_by f) (outs p es) ≡ map f es
  outs_got p [] = refl
  outs_got p (e ∷ es) = ap (λ l. f e ∷ l) (outs_got p es)

module _ {E A : Type 0} (f : E → A) where
  moved : (u w : PartyOf E) (es : List (Event Name E)) → Adds u es w → Moves f (flat_map (put_by f) es) (flat_map (got_by f) es) u w
  moved u w es a = moves_by (put_by f) (got_by f) (λ h. Legal h) actor u w es a

  -- ---- one call
  pub moves_enqueue : (e : E) (u w : PartyOf E) → Enqueues e u w → Moves f (f e ∷ []) [] u w
  moves_enqueue e u w c = moved u w (Swap (name_of u) e ∷ Link (name_of u) ∷ []) c.0

  -- one that may have taken rooms of the pool first
  pub moves_refilled : (e : E) (u w : PartyOf E) → EnqueuesRefilled e u w → Moves f (f e ∷ []) [] u w
  moves_refilled e u w c = moved u w (Swap (name_of u) e ∷ Link (name_of u) ∷ []) c.0

  -- a party that takes rooms of the pool moves nothing
  pub moves_refill : (n : ℕ) (u w : PartyOf E) → Refills n u w → Moves f [] [] u w
  moves_refill n u w c = moved u w [] c.0

  pub moves_dequeue : (r : Result E TryDequeueError) (u w : PartyOf E) → Dequeues r u w → Moves f [] (got_by_try f r) u w
  moves_dequeue (Ok e) u w c = let n = name_of u in moved u w (Take n ∷ Look n ∷ Out n e ∷ Free n ∷ []) c.0
  moves_dequeue (Err error.Empty) u w c = let n = name_of u in moved u w (Take n ∷ Look n ∷ Empty n ∷ Free n ∷ []) c.0
  moves_dequeue (Err error.Inconsistent) u w c = let n = name_of u in moved u w (Take n ∷ Look n ∷ Free n ∷ []) c.adds
  moves_dequeue (Err error.Busy) u w c = moved u w (Busy (name_of u) ∷ []) c.0

  pub moves_consume : (r : Result E TryDequeueError) (u w : PartyOf E) → Consumes r u w → Moves f [] (got_by_try f r) u w
  moves_consume (Ok e) u w c = let n = name_of u in moved u w (Look n ∷ Out n e ∷ []) c.0
  moves_consume (Err error.Empty) u w c = let n = name_of u in moved u w (Look n ∷ Empty n ∷ []) c.0
  moves_consume (Err error.Inconsistent) u w c = moved u w (Look (name_of u) ∷ []) c.adds
  moves_consume (Err error.Busy) u w c = absurd c

  pub moves_right : (u w : PartyOf E) → TakesRight u w ⊎ (FindsBusy u w ⊎ GivesRight u w) → Moves f [] [] u w
  moves_right u w (inl c) = moved u w (Take (name_of u) ∷ []) c.0
  moves_right u w (inr (inl c)) = moved u w (Busy (name_of u) ∷ []) c.0
  moves_right u w (inr (inr c)) = moved u w (Free (name_of u) ∷ []) c.0

  -- a party that rings the bell, clears it or sleeps moves nothing
  pub moves_ring : (u w : PartyOf E) → RingsBell u w → Moves f [] [] u w
  moves_ring u w c = moved u w (Ring (name_of u) ∷ []) c.0

  pub moves_clear : (u w : PartyOf E) → ClearsBell u w → Moves f [] [] u w
  moves_clear u w c = moved u w (Clear (name_of u) ∷ []) c.0

  pub moves_sleep : (slept : Bool) (u w : PartyOf E) → Sleeps slept u w → Moves f [] [] u w
  moves_sleep slept u w c = moved u w [] c.0

  -- a batch, and what the last try added
  batch_moved : (u w : PartyOf E) (es : List E) (more : List (Event Name E)) → flat_map (put_by f) more ≡ [] → flat_map (got_by f) more ≡ [] → Adds u (outs (name_of u) es ++ more) w
      → Moves f [] (map f es) u w
  batch_moved u w es more none_in none_out a =
      let n = name_of u in
      let put = flat_map-append (put_by f) (outs n es) more ∙ (λ i. outs_put f n es i ++ none_in i) in
      let got = flat_map-append (got_by f) (outs n es) more ∙ ((λ i. outs_got f n es i ++ none_out i) ∙ append-nil (map f es)) in
      subst (λ (z : List A × List A). Moves f z.0 z.1 u w) (λ i. (put i, got i)) (moved u w (outs n es ++ more) a)

  batch_stops : (max : ℕ) (es : List E) (u w : PartyOf E) → StopsAt max es u w → Moves f [] (map f es) u w
  batch_stops max es u w (inl s) = batch_moved u w es [] refl refl (subst (λ z. Adds u z w) (sym (append-nil (outs (name_of u) es))) s.1)
  batch_stops max es u w (inr (inl s)) = batch_moved u w es (Look (name_of u) ∷ Empty (name_of u) ∷ []) refl refl s.1
  batch_stops max es u w (inr (inr s)) = batch_moved u w es (Look (name_of u) ∷ []) refl refl s.1

  pub moves_linked : (max : ℕ) (es : List E) (u w : PartyOf E) → TakesLinked max es u w → Moves f [] (map f es) u w
  moves_linked max es u w t = batch_stops max es u w t.stops

  -- ---- a call that waits: tries that moved nothing, and the last
  pub moves_at_last : (Fails Ends : PartyOf E → PartyOf E → Type 0) (s g : List A) → ((u w : PartyOf E) → Fails u w → Moves f [] [] u w)
      → ((u w : PartyOf E) → Ends u w → Moves f s g u w) → (u w : PartyOf E) → AtLast Fails Ends u w → Moves f s g u w
  moves_at_last Fails Ends s g fails ends u w a =
      let (tries, v, failed, last) = a in moves_then (put_by f) (got_by f) [] [] s g u v w (retried u tries v failed) (ends v w last)
    where
      retried : (u : PartyOf E) (vs : List (PartyOf E)) (w : PartyOf E) → Retries Fails u vs w → Moves f [] [] u w
      retried u [] w r = subst (λ z. Moves f [] [] u z) r (moves_none (put_by f) (got_by f) u)
      retried u (v ∷ vs) w r = moves_then (put_by f) (got_by f) [] [] [] [] u v w (fails u v r.0) (retried v vs w r.1)

  -- an enqueue that waited for a room
  pub moves_waited : (e : E) (u w : PartyOf E) → AtLast FindsFull (EnqueuesRefilled e) u w → Moves f (f e ∷ []) [] u w
  moves_waited e u w a = moves_at_last FindsFull (EnqueuesRefilled e) (f e ∷ []) [] (λ x y c. moves_refill 0 x y c.0) (moves_refilled e) u w a

  -- a party that gave all its rooms back, however often it tried
  moves_giving : (b : Bool) (u w : PartyOf E) → GivesAllBack b u w → Moves f [] [] u w
  moves_giving true u w c = moved u w [] c.0
  moves_giving false u w c = moved u w [] c.0

  pub moves_gave_all : (u w : PartyOf E) → AtLast (GivesAllBack false) (GivesAllBack true) u w → Moves f [] [] u w
  moves_gave_all u w a = moves_at_last (GivesAllBack false) (GivesAllBack true) [] [] (moves_giving false) (moves_giving true) u w a
