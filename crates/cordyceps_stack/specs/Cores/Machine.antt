-- A transfer core as plain data, and what each step does to it.
use Rattle.std.specs.Prelude.{ℕ, zero, suc, List, [], ◌∷◌, ◌++◌, reverse, Bool, true, false, nat_eq, Option, Some, None}
use Rattle.std.specs.Prelude.{Result, Ok, Err, slice_get, slice_set, is_none, is_some, ◌&&◌}
use Rattle.std.specs.Option.{option_eq}
use Rattle.std.specs.List.{position}
use Rattle.cordyceps_base.specs.declared.shared.StepError.{StepError}
use Rattle.cordyceps_base.specs.declared.shared.StepError.TheVariants.{NotThere}
use Rattle.cordyceps_shared.specs.declared.room.Room.{Room}
use Rattle.cordyceps_shared.specs.Rooms.{change, with_link, as_free_room, is_free_for, element_in, next_in, occupied}
use Rattle.cordyceps_stack.specs.declared.cores.stage.Attempt.{Attempt}
use Rattle.cordyceps_stack.specs.declared.cores.stage.Stage.{Stage}
use Rattle.cordyceps_stack.specs.declared.cores.stage.Stage.TheVariants.{Rest, Loaded, Set, Walking}
use Rattle.cordyceps_stack.specs.declared.cores.steps.TransferAnswer.{TransferAnswer}
use Rattle.cordyceps_stack.specs.declared.cores.steps.TransferAnswer.TheVariants as answer
use Rattle.cordyceps_stack.specs.declared.cores.steps.TransferStep.{TransferStep}
use Rattle.cordyceps_stack.specs.declared.cores.steps.TransferStep.TheVariants as step
use Rattle.cordyceps_stack.specs.History.{Event, Load, Push, Taken, held}

-- `head`, the rooms, and where each party is, by its number
pub record Machine (E : Type 0) : Type 0 where
  pub head : Option ℕ
  pub rooms : List (Room E)
  pub parties : List Stage

-- what a step returns; a refused one returns its element
abbrev pub Answered : Type 0 → Type 0
Answered E = Result (TransferAnswer E) (StepError × Option E)

-- a machine after a step, and the answer
abbrev pub Outcome : Type 0 → Type 0
Outcome E = Machine E × Answered E

abbrev pub is_rest : Option Stage → Bool
is_rest (Some Rest) = true
is_rest stage = false

-- where a walk goes on that has read this link
abbrev pub stage_after_walk : Option ℕ → Stage
stage_after_walk None = Rest
stage_after_walk (Some r) = Walking r

module _ {E : Type 0} where
  -- no party and no room, and nothing is held
  abbrev pub new_machine : Machine E
  new_machine = record { head = None; rooms = []; parties = [] }

  -- a room that is p's free one
  abbrev pub new_room : ℕ → Room E
  new_room p = record { owner = Some p; element = None; next = None }

  -- one more party, at rest
  abbrev pub with_party : Machine E → Machine E
  with_party m = record { head = m.head; rooms = m.rooms; parties = m.parties ++ Rest ∷ [] }

  -- one more room, p's
  abbrev pub with_room : Machine E → ℕ → Machine E
  with_room m p = record { head = m.head; rooms = m.rooms ++ new_room p ∷ []; parties = m.parties }

  -- a room that got an element
  abbrev pub with_element : E → Room E → Room E
  with_element e room = record { owner = None; element = Some e; next = room.next }

  -- the least of p's free rooms
  abbrev pub least_free : ℕ → List (Room E) → Option ℕ
  least_free p rooms = position (is_free_for p) rooms

  abbrev pub first_then : Option E → List E → List E
  first_then None es = []
  first_then (Some e) es = e ∷ es

  -- the elements in the rooms to which the links lead from `start`, at most n of them
  abbrev pub elements_from : ℕ → List (Room E) → Option ℕ → List E
  elements_from zero rooms start = []
  elements_from (suc n) rooms None = []
  elements_from (suc n) rooms (Some r) =
      first_then (element_in (slice_get rooms r)) (elements_from n rooms (next_in (slice_get rooms r)))

  -- what a machine holds, newest first
  abbrev pub held_in : Machine E → List E
  held_in m = elements_from (occupied m.rooms) m.rooms m.head

  -- the element that a step brings
  abbrev pub step_element : TransferStep E → Option E
  step_element (step.Load e) = Some e
  step_element step.SetNext = None
  step_element step.Exchange = None
  step_element step.Take = None
  step_element step.Walk = None

  abbrev pub refusal : Machine E → TransferStep E → Outcome E
  refusal m s = (m, Err (NotThere, step_element s))

  -- p loads, with this least free room
  abbrev pub load : Machine E → ℕ → E → Option ℕ → Outcome E
  load m p e None = refusal m (step.Load e)
  load m p e (Some r) = (
    record {
      head = m.head;
      rooms = change (with_element e) r m.rooms;
      parties = slice_set m.parties p (Loaded record { room = r; read = m.head });
    },
    Ok answer.Done,
  )

  abbrev pub set_next : Machine E → ℕ → Attempt → Outcome E
  set_next m p a = (
    record {
      head = m.head;
      rooms = change (with_link a.read) a.room m.rooms;
      parties = slice_set m.parties p (Set a);
    },
    Ok answer.Done,
  )

  -- p's exchange fails, with the room r and its element; in a core the room of a push has one
  abbrev pub fails : Machine E → ℕ → ℕ → Option E → Outcome E
  fails m p r None = refusal m step.Exchange
  fails m p r (Some e) = (
    record { head = m.head; rooms = change (as_free_room p) r m.rooms; parties = slice_set m.parties p Rest },
    Ok (answer.Failed e),
  )

  -- p exchanges, where `head` is what was read, or is not
  abbrev pub exchange : Machine E → ℕ → Attempt → Bool → Outcome E
  exchange m p a true = (
    record { head = Some a.room; rooms = m.rooms; parties = slice_set m.parties p Rest },
    Ok (answer.Pushed (is_none a.read)),
  )
  exchange m p a false = fails m p a.room (element_in (slice_get m.rooms a.room))

  -- p takes, with this `head`
  abbrev pub take : Machine E → ℕ → Option ℕ → Outcome E
  take m p None = (m, Ok answer.Nothing)
  take m p (Some r) =
      (record { head = None; rooms = m.rooms; parties = slice_set m.parties p (Walking r) }, Ok answer.Taken)

  abbrev pub walk_answer : E → Option ℕ → TransferAnswer E
  walk_answer e None = answer.Last e
  walk_answer e (Some r) = answer.Gives e

  -- p walks at the room r, with this link and element; in a core a room that is walked has one
  abbrev pub walk : Machine E → ℕ → ℕ → Option ℕ → Option E → Outcome E
  walk m p r next None = refusal m step.Walk
  walk m p r next (Some e) = (
    record {
      head = m.head;
      rooms = change (as_free_room p) r m.rooms;
      parties = slice_set m.parties p (stage_after_walk next);
    },
    Ok (walk_answer e next),
  )

  -- what p's step does at its stage
  abbrev pub acts : Machine E → ℕ → TransferStep E → Stage → Outcome E
  acts m p (step.Load e) Rest = load m p e (least_free p m.rooms)
  acts m p step.SetNext (Loaded a) = set_next m p a
  acts m p step.Exchange (Set a) = exchange m p a (option_eq nat_eq m.head a.read)
  acts m p step.Take Rest = take m p m.head
  acts m p step.Walk (Walking r) = walk m p r (next_in (slice_get m.rooms r)) (element_in (slice_get m.rooms r))
  acts m p s stage = refusal m s

  abbrev pub after_step_at : Machine E → ℕ → TransferStep E → Option Stage → Outcome E
  after_step_at m p s None = refusal m s
  after_step_at m p s (Some stage) = acts m p s stage

  -- the machine after p's step, and the answer
  abbrev pub after_step : Machine E → ℕ → TransferStep E → Outcome E
  after_step m p s = after_step_at m p s (slice_get m.parties p)

  abbrev pub may_take : Machine E → ℕ → TransferStep E → Option Stage → Bool
  may_take m p (step.Load e) (Some Rest) = is_some (least_free p m.rooms)
  may_take m p step.SetNext (Some (Loaded a)) = true
  may_take m p step.Exchange (Some (Set a)) = true
  may_take m p step.Take (Some Rest) = true
  may_take m p step.Walk (Some (Walking r)) = true
  may_take m p s stage = false

  -- there is such a party, it is at that step, and it has a free room if the step needs one
  abbrev pub is_there : Machine E → ℕ → TransferStep E → Bool
  is_there m p s = may_take m p s (slice_get m.parties p)

  abbrev pub is_at_rest : Machine E → ℕ → Bool
  is_at_rest m p = is_rest (slice_get m.parties p)

  -- the party is at rest and has a free room
  abbrev pub is_ready : Machine E → ℕ → Bool
  is_ready m p = is_at_rest m p && is_some (least_free p m.rooms)

  -- what a party at this stage is about to push
  abbrev pub in_hand_at : List (Room E) → Option Stage → Option E
  in_hand_at rooms (Some (Set a)) = element_in (slice_get rooms a.room)
  in_hand_at rooms stage = None

  abbrev pub push_event : {P : Type 0} → P → Option E → List (Event P E)
  push_event p None = []
  push_event p (Some e) = Push p e ∷ []

  abbrev pub events_of_answer : {P : Type 0} → List (Event P E) → P → Option E → TransferStep E → TransferAnswer E →
      List (Event P E)
  events_of_answer h p hand (step.Load e) a = Load p ∷ []
  events_of_answer h p hand s (answer.Pushed b) = push_event p hand
  events_of_answer h p hand s answer.Taken = Taken p (reverse (held h)) ∷ []
  events_of_answer h p hand s answer.Nothing = Taken p [] ∷ []
  events_of_answer h p hand s a = []

  -- the events that a step of p adds to the history, by its answer; a refused step adds none
  abbrev pub events_of_answered : {P : Type 0} → List (Event P E) → P → Option E → TransferStep E → Answered E →
      List (Event P E)
  events_of_answered h p hand s (Ok a) = events_of_answer h p hand s a
  events_of_answered h p hand s (Err e) = []
