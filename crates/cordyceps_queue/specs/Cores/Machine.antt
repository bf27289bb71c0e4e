-- The machine of a queue's core as plain data, and what each step does to it.
--
-- One machine is read in four ways:
--
--     src/cores: the code                      words and views of a shared table
--               |                                             |
--               | view                                        |
--               v                                             |
--     Machine: lists                                          | machine_of
--     Cores/Machine                                           | Shared/Rule
--               |                                             |
--               | abstract_of, Cores/CoreMeets                |
--               v                                             v
--     AbstractMachine: functions of a room's or a party's number, Cores/Abstract
--               |
--               | Meets, Cores/Meets
--               v
--     a history, from its newest event back
--
-- The code has vectors. A contract of the core sees a `Machine`, and `after_step` says what each step makes of it. The
-- lemmas speak of an `AbstractMachine`, which does not say who keeps the words, and `move_of` says what a step makes of
-- that. So each step is shown once to keep what the machine meets (`StepKeeps`), for a core and for a shared table.
use Rattle.std.specs.Prelude.{ℕ, zero, suc, List, [], ◌∷◌, Bool, true, false, nat_eq, Option, Some, None, Result, Ok}
use Rattle.std.specs.Prelude.{Err, slice_get, slice_set, is_some, if◌then◌else◌}
use Rattle.cordyceps_base.specs.declared.shared.StepError.{StepError}
use Rattle.cordyceps_base.specs.declared.shared.StepError.TheVariants.{NotThere}
use Rattle.cordyceps_queue.specs.declared.cores.stage.Stage.{Stage}
use Rattle.cordyceps_queue.specs.declared.cores.stage.Stage.TheVariants.{Rest, Cleared, Swapped, Holding, StubNull}
use Rattle.cordyceps_queue.specs.declared.cores.stage.Stage.TheVariants.{Second, Null, PutClear, PutSwap, PutLink}
use Rattle.cordyceps_queue.specs.declared.cores.stage.Stage.TheVariants.{PutRead}
use Rattle.cordyceps_queue.specs.declared.cores.steps.QueueStep.{QueueStep}
use Rattle.cordyceps_queue.specs.declared.cores.steps.QueueStep.TheVariants as step
use Rattle.cordyceps_queue.specs.declared.cores.steps.QueueAnswer.{QueueAnswer}
use Rattle.cordyceps_queue.specs.declared.cores.steps.QueueAnswer.TheVariants as answer
use Rattle.cordyceps_shared.specs.declared.room.Room.{Room}
use Rattle.cordyceps_shared.specs.Rooms.{change, with_link, as_free_room, is_free_for, element_in, next_in}
use Rattle.cordyceps_queue.specs.History.{Event}

-- the words, the rooms with the stub's as room 0, and the stage of each party by its number; the right is the tail, or
-- None while a party has it
pub record Machine (E : Type 0) : Type 0 where
  pub head : ℕ
  pub right : Option ℕ
  pub rooms : List (Room E)
  pub parties : List Stage

abbrev pub Answered : Type 0 → Type 0
Answered E = Result (QueueAnswer E) (StepError × Option E)

-- a machine and an answer
abbrev pub Outcome : Type 0 → Type 0
Outcome E = Machine E × Answered E

abbrev pub first_of : List ℕ → Option ℕ
first_of [] = None
first_of (r ∷ rs) = Some r

module _ {E : Type 0} where
  -- the stub's room
  abbrev pub stub_room : Option ℕ → Room E
  stub_room next = record { owner = None; element = None; next = next }

  -- a room that got an element
  abbrev pub with_element : E → Room E → Room E
  with_element e room = record { owner = None; element = Some e; next = None }

  -- the numbers of p's free rooms, where the first room has the number i
  abbrev pub free_from : ℕ → ℕ → List (Room E) → List ℕ
  free_from p i [] = []
  free_from p i (room ∷ rooms) = if is_free_for p room then i ∷ free_from p (suc i) rooms else free_from p (suc i) rooms

  abbrev pub free_rooms : ℕ → List (Room E) → List ℕ
  free_rooms p rooms = free_from p 0 rooms

  abbrev pub least_free : ℕ → List (Room E) → Option ℕ
  least_free p rooms = first_of (free_rooms p rooms)

  abbrev pub step_element : QueueStep E → Option E
  step_element (step.Clear o) = o
  step_element _ = None

  abbrev pub refusal : Machine E → QueueStep E → Outcome E
  refusal m s = (m, Err (NotThere, step_element s))

  -- p goes to another stage
  abbrev pub set_stage : Machine E → ℕ → Stage → QueueAnswer E → Outcome E
  set_stage m p stage a =
      (record { head = m.head; right = m.right; rooms = m.rooms; parties = slice_set m.parties p stage }, Ok a)

  -- an element goes into the least free room
  abbrev pub clear : Machine E → ℕ → E → Option ℕ → Outcome E
  clear m p e None = (m, Err (NotThere, Some e))
  clear m p e (Some r) = (
    record {
      head = m.head;
      right = m.right;
      rooms = change (with_element e) r m.rooms;
      parties = slice_set m.parties p (Cleared r);
    },
    Ok answer.Done,
  )

  -- head becomes this room
  abbrev pub swap : Machine E → ℕ → ℕ → Stage → Outcome E
  swap m p r stage =
      (record { head = r; right = m.right; rooms = m.rooms; parties = slice_set m.parties p stage }, Ok answer.Done)

  -- the next word of a room is written
  abbrev pub link : Machine E → ℕ → ℕ → Option ℕ → Stage → Outcome E
  link m p r next stage = (
    record {
      head = m.head;
      right = m.right;
      rooms = change (with_link next) r m.rooms;
      parties = slice_set m.parties p stage;
    },
    Ok answer.Done,
  )

  abbrev pub take : Machine E → ℕ → Option ℕ → Outcome E
  take m p None = (m, Ok answer.Busy)
  take m p (Some t) = (
    record { head = m.head; right = None; rooms = m.rooms; parties = slice_set m.parties p (Holding t) },
    Ok answer.Taken,
  )

  abbrev pub give : Machine E → ℕ → ℕ → Outcome E
  give m p t =
      (record { head = m.head; right = Some t; rooms = m.rooms; parties = slice_set m.parties p Rest }, Ok answer.Done)

  -- the tail's element comes out, its room is p's, and the room after it becomes the tail; in a core the tail has one
  abbrev pub hand_out : Machine E → ℕ → ℕ → ℕ → Option E → Outcome E
  hand_out m p t r None = refusal m step.ReadNext
  hand_out m p t r (Some e) = (
    record {
      head = m.head;
      right = m.right;
      rooms = change (as_free_room p) t m.rooms;
      parties = slice_set m.parties p (Holding r);
    },
    Ok (answer.Out e),
  )

  -- the next word of the tail was read, where the tail is the stub, is an element's, or is read again
  abbrev pub read_stub : Machine E → ℕ → Option ℕ → Outcome E
  read_stub m p None = set_stage m p StubNull answer.Done
  read_stub m p (Some r) = set_stage m p (Second r) answer.Done

  abbrev pub read : Machine E → ℕ → ℕ → Option ℕ → Outcome E
  read m p t None = set_stage m p (Null t) answer.Done
  read m p t (Some r) = hand_out m p t r (element_in (slice_get m.rooms t))

  abbrev pub read_again : Machine E → ℕ → ℕ → Option ℕ → Outcome E
  read_again m p t None = set_stage m p (Holding t) answer.Inconsistent
  read_again m p t (Some r) = hand_out m p t r (element_in (slice_get m.rooms t))

  abbrev pub look : Machine E → ℕ → ℕ → Option ℕ → Outcome E
  look m p zero next = read_stub m p next
  look m p (suc t) next = read m p (suc t) next

  -- head was read, and is the tail or not
  abbrev pub head_stub : Machine E → ℕ → Bool → Outcome E
  head_stub m p true = set_stage m p (Holding 0) answer.Empty
  head_stub m p false = set_stage m p (Holding 0) answer.Inconsistent

  abbrev pub head_tail : Machine E → ℕ → ℕ → Bool → Outcome E
  head_tail m p t true = set_stage m p (PutClear t) answer.Done
  head_tail m p t false = set_stage m p (Holding t) answer.Inconsistent

  -- what p's step does at its stage
  abbrev pub acts : Machine E → ℕ → Stage → QueueStep E → Outcome E
  acts m p Rest (step.Clear (Some e)) = clear m p e (least_free p m.rooms)
  acts m p Rest step.Take = take m p m.right
  acts m p (Cleared r) step.Swap = swap m p r (Swapped r m.head)
  acts m p (Swapped r old) step.Link = link m p old (Some r) Rest
  acts m p (Holding t) step.ReadNext = look m p t (next_in (slice_get m.rooms t))
  acts m p (Holding t) step.Give = give m p t
  acts m p StubNull step.ReadHead = head_stub m p (nat_eq m.head 0)
  acts m p (Second t) step.ReadNext = read m p t (next_in (slice_get m.rooms t))
  acts m p (Null t) step.ReadHead = head_tail m p t (nat_eq m.head t)
  acts m p (PutClear t) (step.Clear None) = link m p 0 None (PutSwap t)
  acts m p (PutSwap t) step.Swap = swap m p 0 (PutLink t m.head)
  acts m p (PutLink t old) step.Link = link m p old (Some 0) (PutRead t)
  acts m p (PutRead t) step.ReadNext = read_again m p t (next_in (slice_get m.rooms t))
  acts m p _ s = refusal m s

  abbrev pub after_step_at : Machine E → ℕ → Option Stage → QueueStep E → Outcome E
  after_step_at m p None s = refusal m s
  after_step_at m p (Some stage) s = acts m p stage s

  -- the machine after p's step, and the answer
  abbrev pub after_step : Machine E → ℕ → QueueStep E → Outcome E
  after_step m p s = after_step_at m p (slice_get m.parties p) s

  -- whether a party with this least free room may take the step at this stage
  abbrev pub may_take : Option ℕ → Stage → QueueStep E → Bool
  may_take free Rest (step.Clear (Some e)) = is_some free
  may_take free Rest step.Take = true
  may_take free (Cleared r) step.Swap = true
  may_take free (Swapped r old) step.Link = true
  may_take free (Holding t) step.ReadNext = true
  may_take free (Holding t) step.Give = true
  may_take free StubNull step.ReadHead = true
  may_take free (Second t) step.ReadNext = true
  may_take free (Null t) step.ReadHead = true
  may_take free (PutClear t) (step.Clear None) = true
  may_take free (PutSwap t) step.Swap = true
  may_take free (PutLink t old) step.Link = true
  may_take free (PutRead t) step.ReadNext = true
  may_take free _ s = false

  abbrev pub may_take_at : Option ℕ → Option Stage → QueueStep E → Bool
  may_take_at free None s = false
  may_take_at free (Some stage) s = may_take free stage s

  -- there is such a party, it is at that step, and has a free room where the step needs one
  abbrev pub is_there : Machine E → ℕ → QueueStep E → Bool
  is_there m p s = may_take_at (least_free p m.rooms) (slice_get m.parties p) s

  -- the event of an element that comes in, and of one that comes out
  abbrev pub comes_in : {P : Type 0} → P → Option E → List (Event P E)
  comes_in p None = []
  comes_in p (Some e) = Event.Swap p e ∷ []

  abbrev pub comes_out : {P : Type 0} → P → QueueAnswer E → List (Event P E)
  comes_out p (answer.Out e) = Event.Out p e ∷ []
  comes_out p _ = []

  -- the events of an accepted step, by its stage and its answer
  abbrev pub events_at : {P : Type 0} → P → List (Room E) → Stage → QueueStep E → QueueAnswer E → List (Event P E)
  events_at p rooms (Cleared r) step.Swap a = comes_in p (element_in (slice_get rooms r))
  events_at p rooms (Swapped r old) step.Link a = Event.Link p ∷ []
  events_at p rooms stage step.Take answer.Busy = Event.Busy p ∷ []
  events_at p rooms stage step.Take a = Event.Take p ∷ []
  events_at p rooms (Holding t) step.ReadNext a = Event.Look p ∷ comes_out p a
  events_at p rooms stage step.ReadNext a = comes_out p a
  events_at p rooms stage step.ReadHead answer.Empty = Event.Empty p ∷ []
  events_at p rooms stage step.Give a = Event.Free p ∷ []
  events_at p rooms stage s a = []

  abbrev pub events_of : {P : Type 0} → P → List (Room E) → Option Stage → QueueStep E → Answered E → List (Event P E)
  events_of p rooms (Some stage) s (Ok a) = events_at p rooms stage s a
  events_of p rooms stage s a = []

  -- the events of p's step, by its answer; a refused step has none
  abbrev pub step_events : Machine E → ℕ → QueueStep E → Answered E → List (Event ℕ E)
  step_events m p s a = events_of p m.rooms (slice_get m.parties p) s a
