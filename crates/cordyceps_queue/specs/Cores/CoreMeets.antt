-- Which cores meet which histories, and what a run of a core's steps is. A core's parties are named by their numbers,
-- and its history has the oldest event first.
use Rattle.std.specs.Prelude.{◌≡◌, ◌≢◌, ℕ, suc, List, [], ◌∷◌, ◌++◌, length, reverse, Option, Some, None, Ok, Err}
use Rattle.std.specs.Prelude.{slice_get}
use native.Mathlib.Decide.{ℕ_discrete}
use Rattle.cordyceps_base.specs.Runs.{Ran, history_after, AllSay}
use Rattle.cordyceps_queue.specs.declared.cores.stage.Stage.{Stage}
use Rattle.cordyceps_queue.specs.declared.cores.stage.Stage.TheVariants.{Rest}
use Rattle.cordyceps_shared.specs.declared.room.Room.{Room}
use Rattle.cordyceps_queue.specs.declared.cores.steps.QueueStep.{QueueStep}
use Rattle.cordyceps_queue.specs.declared.cores.steps.QueueAnswer.{QueueAnswer}
use Rattle.cordyceps_queue.specs.declared.cores.steps.QueueAnswer.TheVariants as answer
use Rattle.cordyceps_queue.specs.History.{Event, came, went, held, holder, IsLegal, WasBlocked}
use Rattle.cordyceps_shared.specs.Rooms.{next_in, element_in}
use Rattle.cordyceps_queue.specs.Cores.Machine.{Machine, Answered, free_rooms, stub_room, after_step, step_events}
use Rattle.cordyceps_queue.specs.Cores.Meets.{Chain, Meets}
use Rattle.cordyceps_queue.specs.Cores.Abstract.{AbstractParty, AbstractMachine}

abbrev pub right_word : Option ℕ → ℕ
right_word None = 0
right_word (Some t) = suc t

module _ {E : Type 0} where
  abbrev pub party_at : List (Room E) → ℕ → Option Stage → Option (AbstractParty ℕ)
  party_at rooms k None = None
  party_at rooms k (Some stage) = Some (record { name = k; stage = stage; spare = free_rooms k rooms })

  -- a core's machine, by the functions of which `Meets` speaks
  abbrev pub abstract_of : Machine E → AbstractMachine ℕ E
  abstract_of m = record {
    head = m.head;
    right = right_word m.right;
    count = length m.rooms;
    next = λ r. next_in (slice_get m.rooms r);
    cell = λ r. element_in (slice_get m.rooms r);
    party = λ k. party_at m.rooms k (slice_get m.parties k);
  }

  -- the free rooms are of parties that there are
  abbrev pub IsOwned : Machine E → Type 0
  IsOwned m = (k : ℕ) → slice_get m.parties k ≡ None → free_rooms k m.rooms ≡ []

  -- `Meets` reads the history from its newest event back
  pub record CoreMeets (h : List (Event ℕ E)) (m : Machine E) : Type 0 where
    pub legal : IsLegal ℕ_discrete h
    pub chain : Chain
    pub meets : Meets (abstract_of m) chain (reverse h)
    pub owned : IsOwned m

  -- it meets some history
  abbrev pub IsSound : Machine E → Type 0
  IsSound m = (h : List (Event ℕ E)) × CoreMeets h m

  -- what an answer says of the history before the step
  abbrev pub Says : List (Event ℕ E) → ℕ → QueueAnswer E → Type 0
  Says h p answer.Done = Unit {0}
  Says h p answer.Taken = holder h ≡ None
  Says h p answer.Busy = (q : ℕ) × (holder h ≡ Some q) × (p ≢ q)
  Says h p (answer.Out e) = (rest : List E) × (held h ≡ e ∷ rest)
  Says h p answer.Empty = held h ≡ []
  Says h p answer.Inconsistent = WasBlocked ℕ_discrete p h

  abbrev pub AnswerSays : List (Event ℕ E) → ℕ → Answered E → Type 0
  AnswerSays h p (Ok a) = Says h p a
  AnswerSays h p (Err e) = Unit {0}

  -- a step with its party
  abbrev pub core_step : Machine E → ℕ × QueueStep E → Machine E × Answered E
  core_step m s = after_step m s.0 s.1

  abbrev pub core_events : List (Event ℕ E) → Machine E → ℕ × QueueStep E → Answered E → List (Event ℕ E)
  core_events h m s a = step_events m s.0 s.1 a

  abbrev pub core_says : List (Event ℕ E) → ℕ × QueueStep E → Answered E → Type 0
  core_says h s a = AnswerSays h s.0 a

  -- the core took the first steps of all, with these replies; it meets each history that it met, with their events
  pub record Replayed (all : List (ℕ × QueueStep E)) (old new : Machine E) (replies : List (Answered E))
      (rest : List (ℕ × QueueStep E)) : Type 0 where
    pub run : Ran core_step all old new replies rest
    pub meets : (h : List (Event ℕ E)) → CoreMeets h old →
        CoreMeets (history_after core_step core_events h old run.ran) new
        × AllSay core_step core_events core_says h old run.ran
    -- what went out, and then what is held, is what came in
    pub in_order : (h : List (Event ℕ E)) → CoreMeets h old →
        let now = history_after core_step core_events h old run.ran in went now ++ held now ≡ came now

  -- a core that has no party
  abbrev pub new_machine : Machine E
  new_machine = record { head = 0; right = Some 0; rooms = stub_room None ∷ []; parties = [] }

  abbrev pub with_party : Machine E → Machine E
  with_party m = record { head = m.head; right = m.right; rooms = m.rooms; parties = m.parties ++ Rest ∷ [] }

  abbrev pub with_room : Machine E → ℕ → Machine E
  with_room m p =
      record {
        head = m.head;
        right = m.right;
        rooms = m.rooms ++ record { owner = Some p; element = None; next = None } ∷ [];
        parties = m.parties;
      }
