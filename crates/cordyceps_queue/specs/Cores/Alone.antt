-- Whole calls that one party runs alone, each by the steps that it takes.
use Rattle.std.specs.Prelude.{◌≡◌, ◌≢◌, ℕ, zero, suc, List, [], ◌∷◌, ◌++◌, Bool, true, false, ◌&&◌, is_some, Option}
use Rattle.std.specs.Prelude.{Some, None, Result, Ok, Err, slice_get}
use native.Mathlib.Decide.{ℕ_discrete}
use Rattle.cordyceps_queue.specs.declared.cores.stage.Stage.{Stage}
use Rattle.cordyceps_queue.specs.declared.cores.stage.Stage.TheVariants.{Rest, Holding, StubNull, Null, PutClear}
use Rattle.cordyceps_queue.specs.declared.cores.stage.Stage.TheVariants.{PutSwap, PutLink}
use Rattle.cordyceps_queue.specs.declared.cores.steps.QueueStep.{QueueStep}
use Rattle.cordyceps_queue.specs.declared.cores.steps.QueueStep.TheVariants as step
use Rattle.cordyceps_queue.specs.declared.cores.steps.QueueAnswer.TheVariants as answer
use Rattle.cordyceps_queue.specs.declared.cores.steps.TryDequeueError.{TryDequeueError}
use Rattle.cordyceps_queue.specs.declared.cores.steps.TryDequeueError.TheVariants as error
use Rattle.cordyceps_queue.specs.History.{Event, Swap, Link, Take, Busy, Look, Out, Empty, Free, held, holder}
use Rattle.cordyceps_queue.specs.History.{IsBlocked}
use Rattle.cordyceps_queue.specs.Cores.CoreMeets.{CoreMeets}
use Rattle.cordyceps_queue.specs.Cores.Machine.{Machine, Answered, Outcome, after_step, least_free}

abbrev pub is_rest : Option Stage → Bool
is_rest (Some Rest) = true
is_rest stage = false

-- the stages from which a party may dequeue
abbrev pub may_dequeue : Option Stage → Bool
may_dequeue (Some Rest) = true
may_dequeue (Some (Holding t)) = true
may_dequeue stage = false

-- the step of a try to dequeue at this stage
abbrev pub next_step : {E : Type 0} → Option Stage → QueueStep E
next_step (Some StubNull) = step.ReadHead
next_step (Some (Null t)) = step.ReadHead
next_step (Some (PutClear t)) = step.Clear None
next_step (Some (PutSwap t)) = step.Swap
next_step (Some (PutLink t old)) = step.Link
next_step stage = step.ReadNext

abbrev pub is_done : {E : Type 0} → Answered E → Bool
is_done (Ok answer.Done) = true
is_done a = false

-- what an answer means for a try to dequeue
abbrev pub found_of : {E : Type 0} → Answered E → Result E TryDequeueError
found_of (Ok (answer.Out e)) = Ok e
found_of (Ok answer.Empty) = Err error.Empty
found_of (Ok answer.Busy) = Err error.Busy
found_of a = Err error.Inconsistent

module _ {E : Type 0} where
  -- the party is at rest and has a free room
  abbrev pub is_ready : Machine E → ℕ → Bool
  is_ready m p = is_rest (slice_get m.parties p) && is_some (least_free p m.rooms)

  -- the steps of an enqueue
  abbrev pub enqueue_steps : ℕ → E → List (ℕ × QueueStep E)
  enqueue_steps p e = (p, step.Clear (Some e)) ∷ (p, step.Swap) ∷ (p, step.Link) ∷ []

  abbrev pub goes_on : (Machine E → Outcome E) → Machine E → Answered E → Outcome E
  goes_on next m (Ok answer.Done) = next m
  goes_on next m a = (m, a)

  -- the steps that the stages of a holder allow, until an answer other than Done: one, and at most n more
  abbrev pub tries : ℕ → ℕ → Machine E → Outcome E
  tries p zero m = after_step m p (next_step (slice_get m.parties p))
  tries p (suc n) m = let out = after_step m p (next_step (slice_get m.parties p)) in goes_on (tries p n) out.0 out.1

  -- the right is given back
  abbrev pub gives_back : ℕ → Outcome E → Outcome E
  gives_back p out = ((after_step out.0 p step.Give).0, out.1)

  abbrev pub takes_first : ℕ → Machine E → Answered E → Outcome E
  takes_first p m (Ok answer.Taken) = gives_back p (tries p 6 m)
  takes_first p m a = (m, a)

  -- a try to dequeue: from rest it takes the right first and gives it back last
  abbrev pub after_dequeue_at : ℕ → Machine E → Option Stage → Outcome E
  after_dequeue_at p m (Some Rest) = let out = after_step m p step.Take in takes_first p out.0 out.1
  after_dequeue_at p m stage = tries p 6 m

  abbrev pub after_dequeue : Machine E → ℕ → Outcome E
  after_dequeue m p = after_dequeue_at p m (slice_get m.parties p)

  -- the events of a try by a holder
  abbrev pub try_events : ℕ → Result E TryDequeueError → List (Event ℕ E)
  try_events p (Ok e) = Look p ∷ Out p e ∷ []
  try_events p (Err error.Empty) = Look p ∷ Empty p ∷ []
  try_events p (Err e) = Look p ∷ []

  -- the events of a call, by the stage at which it began
  abbrev pub dequeue_events : ℕ → Option Stage → Result E TryDequeueError → List (Event ℕ E)
  dequeue_events p (Some Rest) (Err error.Busy) = Busy p ∷ []
  dequeue_events p (Some Rest) found = Take p ∷ try_events p found ++ Free p ∷ []
  dequeue_events p stage found = try_events p found

  -- the events of a call up to the look that began its try
  abbrev pub look_events : ℕ → Option Stage → List (Event ℕ E)
  look_events p (Some Rest) = Take p ∷ Look p ∷ []
  look_events p stage = Look p ∷ []

  -- just after that look the history was blocked
  abbrev pub LooksBlocked : List (Event ℕ E) → ℕ → Option Stage → Type 0
  LooksBlocked h p stage = IsBlocked ℕ_discrete (h ++ look_events p stage)

  -- what a call found, by the history before it
  abbrev pub Finds : List (Event ℕ E) → ℕ → Result E TryDequeueError → Type 0
  Finds h p (Ok e) = (rest : List E) × (held h ≡ e ∷ rest)
  Finds h p (Err error.Empty) = held h ≡ []
  Finds h p (Err error.Inconsistent) = IsBlocked ℕ_discrete h
  Finds h p (Err error.Busy) = (q : ℕ) × (holder h ≡ Some q) × (p ≢ q)

  -- the element is held last, and the core meets the history with its coming in
  abbrev pub Enqueued : List (Event ℕ E) → ℕ → E → Machine E → Type 0
  Enqueued h p e m = let now = h ++ Swap p e ∷ Link p ∷ [] in CoreMeets now m × (held now ≡ held h ++ e ∷ [])
