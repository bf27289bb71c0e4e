-- What each step keeps.
use Rattle.std.specs.Prelude.{◌≡◌, ◌≢◌, ℕ, List, [], ◌∷◌, ◌++◌, Some, None}
use Rattle.cordyceps_queue.specs.History.{Event}
use Rattle.cordyceps_queue.specs.Past.{held_reversed, holder_reversed}
use Rattle.cordyceps_queue.specs.Past.{WasBlockedReversed}
use Rattle.cordyceps_queue.specs.declared.cores.steps.QueueStep.{QueueStep}
use Rattle.cordyceps_queue.specs.declared.cores.steps.QueueAnswer.{QueueAnswer}
use Rattle.cordyceps_queue.specs.declared.cores.steps.QueueAnswer.TheVariants as answer
use Rattle.cordyceps_queue.specs.Cores.Abstract.{AbstractParty, AbstractMachine, Move, add_party, add_room, move_of}
use Rattle.cordyceps_queue.specs.Cores.Meets.{Chain, IsStranger, Meets}

-- what an answer says of the history before the step
abbrev pub SaysReversed : {P E : Type 0} → P → QueueAnswer E → List (Event P E) → Type 0
SaysReversed q answer.Done h = Unit {0}
SaysReversed q answer.Taken h = holder_reversed h ≡ None
SaysReversed {P} q answer.Busy h = (r : P) × (holder_reversed h ≡ Some r) × (q ≢ r)
SaysReversed {P} {E} q (answer.Out e) h = (rest : List E) × (held_reversed h ≡ e ∷ rest)
SaysReversed q answer.Empty h = held_reversed h ≡ []
SaysReversed q answer.Inconsistent h = WasBlockedReversed q h

-- an accepted step of a machine that meets a history leads to one that meets it with the step's events
abbrev pub StepKeeps : (P E : Type 0) → Type 0
StepKeeps P E =
    (m : AbstractMachine P E) (c : Chain) (h : List (Event P E)) → Meets m c h →
    (k : ℕ) (p : AbstractParty P) (s : QueueStep E) (v : Move P E) → m.party k ≡ Some p → move_of m k s ≡ Some v →
    (c' : Chain) × Meets v.after c' (v.events ++ h) × SaysReversed p.name v.answer h

-- a new machine
abbrev pub new_abstract : {P E : Type 0} → AbstractMachine P E
new_abstract = record { head = 0; right = 1; count = 1; next = λ _. None; cell = λ _. None; party = λ _. None }

-- a new machine meets the empty history
abbrev pub NewMeets : (P E : Type 0) → Type 0
NewMeets P E = (c : Chain) × Meets {P = P} {E = E} new_abstract c []

-- a party whose name no other has, and a room more for a party
abbrev pub AddsKeep : (P E : Type 0) → Type 0
AddsKeep P E =
    (m : AbstractMachine P E) (c : Chain) (h : List (Event P E)) → Meets m c h → (k : ℕ) →
    ((name : P) → m.party k ≡ None → IsStranger m.party name → (c' : Chain) × Meets (add_party m k name) c' h)
    × ((p : AbstractParty P) → m.party k ≡ Some p → (c' : Chain) × Meets (add_room m k p) c' h)
