-- Several tries that one party runs alone, one after the other, and what their call returns.
use Rattle.std.specs.Prelude.{◌≡◌, ◌≢◌, ℕ, zero, suc, ◌-◌, ◌≤◌, Bool, true, false, List, [], ◌∷◌, ◌++◌, length, take}
use Rattle.std.specs.Prelude.{count_by, slice_get, vec_items, Option, Some, None, Result, Ok, Err, Vec}
use native.Mathlib.Decide.{ℕ_discrete}
use Rattle.cordyceps_shared.specs.Rooms.{occupied}
use Rattle.cordyceps_queue.specs.declared.cores.stage.Stage.{Stage}
use Rattle.cordyceps_queue.specs.declared.cores.stage.Stage.TheVariants.{Rest, Cleared}
use Rattle.cordyceps_queue.specs.declared.cores.steps.QueueStep.TheVariants as step
use Rattle.cordyceps_queue.specs.declared.cores.steps.QueueAnswer.TheVariants as answer
use Rattle.cordyceps_queue.specs.declared.cores.steps.TryDequeueError.{TryDequeueError}
use Rattle.cordyceps_queue.specs.declared.cores.steps.TryDequeueError.TheVariants as error
use Rattle.cordyceps_queue.specs.History.{Event, Take, Busy, Look, Free, held, holder, IsPending, IsBlocked, outs}
use Rattle.cordyceps_queue.specs.Cores.Machine.{Machine, Answered, after_step}
use Rattle.cordyceps_queue.specs.Cores.CoreMeets.{CoreMeets}
use Rattle.cordyceps_queue.specs.Cores.Alone.{may_dequeue, found_of, tries, try_events}

-- a machine, the elements that came out, oldest first, and why the last try gave none, if it did
abbrev pub Drained : Type 0 → Type 0
Drained E = Machine E × List E × Option TryDequeueError

-- a party at this stage may take a batch of at most n elements
abbrev pub may_drain : ℕ → Option Stage → Bool
may_drain zero stage = false
may_drain (suc n) stage = may_dequeue stage

abbrev pub is_cleared : Stage → Bool
is_cleared (Cleared r) = true
is_cleared stage = false

module _ {E : Type 0} where
  -- how many elements are held: those in rooms, but for those that a party has yet to swap in
  abbrev pub count_held : Machine E → ℕ
  count_held m = occupied m.rooms - count_by is_cleared m.parties

  abbrev pub drain_goes_on : (Machine E → Drained E) → Machine E → Result E TryDequeueError → Drained E
  drain_goes_on next m (Ok e) = let d = next m in record d { 1 = e ∷ d.1 }
  drain_goes_on next m (Err why) = (m, [], Some why)

  -- the elements that came out, and why the last try gave none
  abbrev pub came_out : Drained E → List E
  came_out d = d.1

  abbrev pub stop_of : Drained E → Option TryDequeueError
  stop_of d = let (_, _, stop) = d in stop

  -- tries of a holder, until n elements came out or a try gave none
  abbrev pub after_drain : ℕ → ℕ → Machine E → Drained E
  after_drain p zero m = (m, [], None)
  after_drain p (suc n) m = let out = tries p 6 m in drain_goes_on (after_drain p n) out.0 (found_of out.1)

  -- the right is given back
  abbrev pub hands_back : ℕ → Drained E → Drained E
  hands_back p d = record d { 0 = (after_step d.0 p step.Give).0 }

  abbrev pub drains_first : ℕ → ℕ → Machine E → Answered E → Drained E
  drains_first p n m (Ok answer.Taken) = hands_back p (after_drain p n m)
  drains_first p n m a = (m, [], Some error.Busy)

  -- from rest the right is taken first and given back last
  abbrev pub after_drain_at : ℕ → ℕ → Machine E → Option Stage → Drained E
  after_drain_at p n m (Some Rest) = let out = after_step m p step.Take in drains_first p n out.0 out.1
  after_drain_at p n m stage = after_drain p n m

  -- what a call by this party comes to
  abbrev pub after_batch : ℕ → ℕ → Machine E → Drained E
  after_batch p n m = after_drain_at p n m (slice_get m.parties p)

  -- the result: the elements, or why there is none
  abbrev pub batch_of : List E → Option TryDequeueError → Result (List E) TryDequeueError
  batch_of [] (Some why) = Err why
  batch_of es stop = Ok es

  -- what a call returned, with the elements of its vector
  abbrev pub batch_as_list : {Z : Type 0} → Result (Vec E Z) TryDequeueError → Result (List E) TryDequeueError
  batch_as_list (Ok batch) = Ok (vec_items batch)
  batch_as_list (Err why) = Err why

  -- the result where no other party is pending or has the right: the oldest of these elements, n or all, or that there
  -- is none
  abbrev pub oldest : ℕ → List E → Result (List E) TryDequeueError
  oldest n [] = Err error.Empty
  oldest n (e ∷ es) = Ok (take n (e ∷ es))

  -- each party has linked what it swapped in
  abbrev pub NobodyPending : List (Event ℕ E) → Type 0
  NobodyPending h = (q : ℕ) → IsPending ℕ_discrete q h → ⊥

  -- no other party has the right
  abbrev pub NobodyElse : List (Event ℕ E) → ℕ → Type 0
  NobodyElse h p = (q : ℕ) → holder h ≡ Some q → p ≡ q

  -- the events of tries that gave these elements and then stopped so
  abbrev pub drain_events : ℕ → List E → Option TryDequeueError → List (Event ℕ E)
  drain_events p es None = outs p es
  drain_events p es (Some why) = outs p es ++ try_events p (Err why)

  -- the events of a call, by the stage at which it began
  abbrev pub batch_events : ℕ → Option Stage → List E → Option TryDequeueError → List (Event ℕ E)
  batch_events p (Some Rest) es (Some error.Busy) = Busy p ∷ []
  batch_events p (Some Rest) es stop = Take p ∷ drain_events p es stop ++ Free p ∷ []
  batch_events p stage es stop = drain_events p es stop

  -- the events up to the look at which the call stopped
  abbrev pub last_look : ℕ → Option Stage → List E → List (Event ℕ E)
  last_look p (Some Rest) es = Take p ∷ outs p es ++ Look p ∷ []
  last_look p stage es = outs p es ++ Look p ∷ []

  -- why no more came: as many came as were asked for; no more was held; the history was blocked just after the last
  -- look; or another party had the right
  abbrev pub Stops : List (Event ℕ E) → ℕ → ℕ → Option Stage → List E → Option TryDequeueError → Type 0
  Stops h p n stage es None = length es ≡ n
  Stops h p n stage es (Some error.Empty) = held h ≡ es
  Stops h p n stage es (Some error.Inconsistent) = IsBlocked ℕ_discrete (h ++ last_look p stage es)
  Stops h p n stage es (Some error.Busy) = (es ≡ []) × (q : ℕ) × (holder h ≡ Some q) × (p ≢ q)

  -- what a call took, by the history before it: the oldest elements, and why no more
  pub record Drains (h : List (Event ℕ E)) (p n : ℕ) (stage : Option Stage) (es : List E)
      (stop : Option TryDequeueError) : Type 0 where
    pub rest : List E
    pub front : held h ≡ es ++ rest
    pub few : length es ≤ n
    pub stops : Stops h p n stage es stop

  -- a call on the machine m, after which it is k: the history goes on by the call's events, and what it took
  pub record TakesBatch (h : List (Event ℕ E)) (p n : ℕ) (m k : Machine E) : Type 0 where
    pub meets :
        let d = after_batch p n m in CoreMeets (h ++ batch_events p (slice_get m.parties p) (came_out d) (stop_of d)) k
    pub took : let d = after_batch p n m in Drains h p n (slice_get m.parties p) (came_out d) (stop_of d)
