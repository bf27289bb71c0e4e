-- What the walks of a core's parties hand out.
use Rattle.std.specs.Prelude.{◌≡◌, ℕ, List, [], ◌∷◌, ◌++◌, Option, Some, None, Ok, slice_get, ◌==◌, if◌then◌else◌}
use Rattle.cordyceps_shared.specs.declared.room.Room.{Room}
use Rattle.cordyceps_stack.specs.declared.cores.stage.Stage.{Stage}
use Rattle.cordyceps_stack.specs.declared.cores.stage.Stage.TheVariants.{Walking}
use Rattle.cordyceps_stack.specs.declared.cores.steps.TransferAnswer.TheVariants as answer
use Rattle.cordyceps_stack.specs.declared.cores.steps.TransferStep.{TransferStep}
use Rattle.cordyceps_stack.specs.History.{Event, Load, Push, Taken}
use Rattle.cordyceps_stack.specs.Cores.Machine.{Machine, Answered}
use Rattle.cordyceps_stack.specs.Cores.Stages.{room_in_use}

module _ {E : Type 0} where
  -- q's elements, and nobody else's
  abbrev pub only : ℕ → List E → ℕ → List E
  only q es p = if q == p then es else []

  -- the batches that p took, one after another, each newest first
  abbrev pub batches : ℕ → List (Event ℕ E) → List E
  batches p [] = []
  batches p (Load q ∷ h) = batches p h
  batches p (Push q e ∷ h) = batches p h
  batches p (Taken q batch ∷ h) = only q batch p ++ batches p h

  -- `start` leads to a room with this element. Rest holds of its link
  pub record LeadsToElement (rooms : List (Room E)) (start : Option ℕ) (e : E) (Rest : Option ℕ → Type 0)
      : Type 0 where
    pub room : ℕ
    pub next : Option ℕ
    pub start_is : start ≡ Some room
    pub reads : slice_get rooms room ≡ Some (room_in_use e next)
    pub rest : Rest next

  -- from `start` the links lead through rooms with these elements to null
  abbrev pub LeadsToElements : List (Room E) → Option ℕ → List E → Type 0
  LeadsToElements rooms start [] = start ≡ None
  LeadsToElements rooms start (e ∷ es) = LeadsToElement rooms start e (λ next. LeadsToElements rooms next es)

  -- what a party at this stage has yet to hand out
  abbrev pub IsLeftAt : List (Room E) → Option Stage → List E → Type 0
  IsLeftAt rooms (Some (Walking r)) es = LeadsToElements rooms (Some r) es
  IsLeftAt rooms stage es = es ≡ []

  -- what p has yet to hand out
  abbrev pub IsLeft : Machine E → ℕ → List E → Type 0
  IsLeft m p es = IsLeftAt m.rooms (slice_get m.parties p) es

  -- what an answer hands out
  abbrev pub handed_elements : Answered E → List E
  handed_elements (Ok (answer.Gives e)) = e ∷ []
  handed_elements (Ok (answer.Last e)) = e ∷ []
  handed_elements a = []

  -- what the answers to p's steps hand out
  abbrev pub handed_elements_of : ℕ → List (ℕ × TransferStep E) → List (Answered E) → List E
  handed_elements_of p (s ∷ ss) (a ∷ more) = only s.0 (handed_elements a) p ++ handed_elements_of p ss more
  handed_elements_of p ss more = []

  -- what p handed out, and then what it has yet to, are its batches
  pub record HandsOut (h : List (Event ℕ E)) (m : Machine E) (p : ℕ) (given : List E) : Type 0 where
    pub left : List E
    pub is_left : IsLeft m p left
    pub all : given ++ left ≡ batches p h

  -- whatever each party handed out before, it has handed out that and more
  abbrev pub HandsOn : List (Event ℕ E) → Machine E → List (Event ℕ E) → Machine E → (ℕ → List E) → Type 0
  HandsOn h old h' new more = (p : ℕ) (given : List E) → HandsOut h old p given → HandsOut h' new p (given ++ more p)
