-- What calls do to the handle of a pile, which is i before and j after.
use Rattle.std.specs.Prelude.{◌≡◌, ◌≢◌, ℕ, List, [], ◌∷◌, Bool, true, Option, Some, None, MatchOption, Result, MatchResult, ◌⊎◌}
use Rattle.std.specs.Arc.{arc_value}
use Rattle.cordyceps_base.specs.Element.{Element}
use Rattle.cordyceps_shared.specs.Shares.{whole}
use Rattle.cordyceps_shared.specs.Standings.{new_party, keeping, giving, Absorbs}
use Rattle.cordyceps_stack.specs.History.{Legal}
use Rattle.cordyceps_stack.specs.Shared.Calls.{Takes, PushesRefilled, FindsFull, MissesRefilled, HasAllRooms, GivesAllBack}
use Rattle.cordyceps_stack.specs.Shared.Calls.{FailsToPush, IsCertainlyFull}
use Rattle.cordyceps_stack.specs.declared.shared.push_error.TryPushError.{TryPushError}
use Rattle.cordyceps_c_shared.specs.declared.answers.TheConstants.{DONE, BUSY, FULL, NO_MEMORY}
use Rattle.cordyceps_base.specs.declared.node.Block.{Block}
use Rattle.cordyceps_c_base.specs.declared.carried.Carried.{Carried}
use Rattle.cordyceps_c_base.specs.Elements.{HoldsElement}
use Rattle.cordyceps_c_shared.specs.declared.pile.Pile.{Pile}
use Rattle.cordyceps_c_shared.specs.declared.pile.Pushed.{Pushed}
use Rattle.cordyceps_c_shared.specs.declared.pile.Pushed.TheVariants.{Done, Full, Busy, NoMemory}
use Rattle.cordyceps_c_shared.specs.Inboxes.{letter_of, payload_of}

-- it is the only handle of its pile, has all its rooms, and took nothing
abbrev pub IsNew : (rooms : ℕ) → Pile → Type 0
IsNew rooms i = (i.party ≡ new_party i.party.table rooms) × (i.party.table.slots ≡ rooms) × (i.taken ≡ [])

-- a further handle k of the same pile came of it, without rooms, which took nothing
pub record SplitsOff (i j k : Pile) : Type 0 where
  pub stack : j.stack ≡ i.stack
  pub same : arc_value k.stack ≡ arc_value i.stack
  pub keeps : j.party ≡ keeping 0 i.party
  pub gives : k.party ≡ giving 0 i.party
  pub taken : j.taken ≡ i.taken
  pub none : k.taken ≡ []

abbrev pub TriesToSplit : Pile → Pile → Option Pile → Type 0
TriesToSplit i j made = MatchOption made (j ≡ i) (SplitsOff i j)

-- it took over the rooms and the history of the handle k
abbrev pub TakesOver : Pile → Pile → Pile → Type 0
TakesOver i k j = (j.stack ≡ i.stack) × (j.taken ≡ i.taken) × Absorbs (λ h. Legal h) i.party k.party j.party

-- it is as it was, or a handle that was split off it was taken over again
abbrev pub KeepsOrRejoins : Pile → Pile → Type 0
KeepsOrRejoins i j = (j ≡ i) ⊎ ((kept : Pile) × (given : Pile) × SplitsOff i kept given × TakesOver kept given j)

-- what became of an element that was to be pushed
abbrev pub Ends : Element Carried → Pushed → Pile → Pile → Type 0
Ends e Done i j = (first : Bool) × PushesRefilled e first i.party j.party
Ends e Full i j = FindsFull i.party j.party × (i.party.share ≡ whole → HasAllRooms j.party)
Ends e Busy i j = MissesRefilled i.party j.party × (i.party.share ≢ whole)
Ends e NoMemory i j = j.party ≡ i.party

abbrev pub TriesToPush : Element Carried → Pushed → Pile → Pile → Type 0
TriesToPush e pushed i j = (j.stack ≡ i.stack) × (j.taken ≡ i.taken) × Ends e pushed i j

-- a node was pushed, which was then the only one or not, or it came back
abbrev pub PushesNode : Element Carried → Result Bool (TryPushError (Element Carried)) → Pile → Pile → Type 0
PushesNode e result i j =
    (j.stack ≡ i.stack) × (j.taken ≡ i.taken) × MatchResult result
    (λ first. PushesRefilled e first i.party j.party)
    (λ why. FailsToPush e why i.party j.party × (i.party.share ≡ whole → IsCertainlyFull why j.party))

-- the first of what was taken came out, and this is left
abbrev pub GivesFirst : List (Element Carried) → Option (Element Carried) → List (Element Carried) → Type 0
GivesFirst taken None left = (taken ≡ []) × (left ≡ [])
GivesFirst taken (Some e) left = taken ≡ e ∷ left

-- if nothing was left of what it took, it took all that was in the stack at once, and then the first of that came out
abbrev pub GivesOrTakes : List (Element Carried) → Option (Element Carried) → Pile → Pile → Type 0
GivesOrTakes [] popped i j =
    (batch : List (Element Carried)) × Takes batch i.party j.party × GivesFirst batch popped j.taken
GivesOrTakes (e ∷ es) popped i j = (j.party ≡ i.party) × GivesFirst (e ∷ es) popped j.taken

abbrev pub Pops : Option (Element Carried) → Pile → Pile → Type 0
Pops popped i j = (j.stack ≡ i.stack) × GivesOrTakes i.taken popped i j

-- what the handle of a node holds, after the node was to be pushed, and after one was to come out
abbrev pub HoldsUnless : Pushed → Element Carried → Option (Block Carried) → Type 0
HoldsUnless Done e held = held ≡ None
HoldsUnless Full e held = HoldsElement held e
HoldsUnless Busy e held = HoldsElement held e
HoldsUnless NoMemory e held = HoldsElement held e

abbrev pub HoldsPopped : Option (Block Carried) → Option (Element Carried) → Type 0
HoldsPopped held (Some e) = HoldsElement held e
HoldsPopped held None = held ≡ None

-- it pushed and took nothing; with true, it has no room left, and it is true where the party is whole
abbrev pub GivesRooms : Bool → Pile → Pile → Type 0
GivesRooms given i j =
    (j.stack ≡ i.stack) × (j.taken ≡ i.taken) × GivesAllBack given i.party j.party
    × (i.party.share ≡ whole → given ≡ true)

-- the number that C gets
abbrev pub number_of_pushed : Pushed → ℕ
number_of_pushed Done = DONE
number_of_pushed Full = FULL
number_of_pushed Busy = BUSY
number_of_pushed NoMemory = NO_MEMORY

-- the payload that came out, or what was there before
abbrev pub payload_after : ℕ → Option (Element Carried) → ℕ
payload_after old (Some e) = payload_of e
payload_after old None = old
