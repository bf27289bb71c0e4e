-- Which cores meet which histories, and what a run of a core's steps is. A core's parties are named by their numbers.
use Rattle.std.specs.Prelude.{◌≡◌, ◌≢◌, ◌↔◌, ℕ, List, [], ◌++◌, reverse, true, Option, Some, None, Ok, Err, slice_get}
use Rattle.cordyceps_base.specs.Runs.{Ran, history_after, AllSay}
use Rattle.cordyceps_stack.specs.declared.cores.steps.TransferStep.{TransferStep}
use Rattle.cordyceps_stack.specs.declared.cores.steps.TransferAnswer.{TransferAnswer}
use Rattle.cordyceps_stack.specs.declared.cores.steps.TransferAnswer.TheVariants as answer
use Rattle.cordyceps_stack.specs.declared.cores.stage.Stage.{Stage}
use Rattle.cordyceps_stack.specs.History.{Event, Legal, held, taken_elements, pushes, Overtaken}
use Rattle.cordyceps_stack.specs.Cores.Machine.{Machine, Answered, in_hand_at, events_of_answered, after_step}
use Rattle.cordyceps_stack.specs.Cores.Stages.{AtStage, LeadsThrough, room_elements}
use Rattle.cordyceps_stack.specs.Cores.Walks.{HandsOn, handed_elements_of}

module _ {E : Type 0} where
  -- a core meets a history: the history is legal, what it holds is in the stack, and each party is where its events
  -- have led it
  pub record CoreMeets (h : List (Event ℕ E)) (m : Machine E) : Type 0 where
    pub legal : Legal h
    -- the party that a room in use is with, or none where it is in the stack
    pub own : ℕ → Option ℕ
    -- the stack, newest first
    pub chain : List (ℕ × E)
    pub linked : LeadsThrough m.rooms own None m.head chain
    pub holds : room_elements chain ≡ reverse (held h)
    pub parties : (p : ℕ) (stage : Stage) → slice_get m.parties p ≡ Some stage → AtStage h m.head m.rooms own p stage

  -- it meets some history
  abbrev pub IsSound : Machine E → Type 0
  IsSound m = (h : List (Event ℕ E)) × CoreMeets h m

  -- what an answer says of the history before the step
  abbrev pub Says : List (Event ℕ E) → ℕ → TransferAnswer E → Type 0
  Says h p (answer.Pushed b) = (b ≡ true) ↔ (held h ≡ [])
  Says h p (answer.Failed e) = Overtaken p h
  Says h p answer.Taken = held h ≢ []
  Says h p answer.Nothing = held h ≡ []
  Says h p answer.Done = Unit {0}
  Says h p (answer.Gives e) = Unit {0}
  Says h p (answer.Last e) = Unit {0}

  abbrev pub AnswerSays : List (Event ℕ E) → ℕ → Answered E → Type 0
  AnswerSays h p (Ok a) = Says h p a
  AnswerSays h p (Err e) = Unit {0}

  -- a step with its party
  abbrev pub core_step : Machine E → ℕ × TransferStep E → Machine E × Answered E
  core_step m s = after_step m s.0 s.1

  -- the events that a step adds to the history, by its answer
  abbrev pub step_events : List (Event ℕ E) → Machine E → ℕ → TransferStep E → Answered E → List (Event ℕ E)
  step_events h m p s a = events_of_answered h p (in_hand_at m.rooms (slice_get m.parties p)) s a

  abbrev pub core_events : List (Event ℕ E) → Machine E → ℕ × TransferStep E → Answered E → List (Event ℕ E)
  core_events h m s a = step_events h m s.0 s.1 a

  -- what the answer says of the history before the step
  abbrev pub core_says : List (Event ℕ E) → ℕ × TransferStep E → Answered E → Type 0
  core_says h s a = AnswerSays h s.0 a

  -- the core took the first of the steps, with these replies, and the others are the rest
  pub record Replayed (all : List (ℕ × TransferStep E)) (old new : Machine E) (replies : List (Answered E))
      (rest : List (ℕ × TransferStep E)) : Type 0 where
    pub run : Ran core_step all old new replies rest
    -- it meets the history followed by the events of the steps, and each reply says what it says of the history before
    pub meets : (h : List (Event ℕ E)) → CoreMeets h old
        → CoreMeets (history_after core_step core_events h old run.ran) new
        × AllSay core_step core_events core_says h old run.ran
    -- what was taken, and then what is held, is what was pushed
    pub nothing_lost : (h : List (Event ℕ E)) → CoreMeets h old
        → let after = history_after core_step core_events h old run.ran in
        taken_elements after ++ held after ≡ pushes after
    -- what each party's walks hand out, and then what is left of them, are its batches
    pub walks : (h : List (Event ℕ E)) → CoreMeets h old
        → HandsOn h old (history_after core_step core_events h old run.ran) new
        (λ p. handed_elements_of p run.ran replies)
