-- What calls do to the handle of an inbox, which is i before and j after.
use Rattle.std.specs.Prelude.{◌≡◌, ℕ, ◌<◌, ◌≤◌, [], Bool, true, Option, None, MatchOption, ◌⊎◌, Result, Ok, Err}
use Rattle.std.specs.Arc.{arc_value}
use Rattle.cordyceps_base.specs.Element.{Element}
use Rattle.cordyceps_shared.specs.Shares.{whole}
use Rattle.cordyceps_shared.specs.Standings.{new_party, keeping, giving, Absorbs}
use Rattle.cordyceps_queue.specs.declared.cores.steps.TryDequeueError.{TryDequeueError}
use Rattle.cordyceps_queue.specs.declared.cores.steps.TryDequeueError.TheVariants.{Empty as FindsEmpty, Inconsistent as FindsInconsistent, Busy as FindsBusy}
use Rattle.cordyceps_queue.specs.Shared.Calls.{Legal, capacity, Dequeues, EnqueuesRefilled, FindsFull, HasAllRooms}
use Rattle.cordyceps_queue.specs.Shared.Moves.{Moves}
use Rattle.cordyceps_c_shared.specs.declared.answers.TheConstants.{DONE, EMPTY, UNLINKED, BUSY, FULL, NO_MEMORY}
use Rattle.cordyceps_c_shared.specs.declared.inbox.Inbox.{Inbox}
use Rattle.cordyceps_c_shared.specs.declared.inbox.TheConstants.{KEPT}
use Rattle.cordyceps_base.specs.declared.node.Block.{Block}
use Rattle.cordyceps_c_base.specs.declared.carried.Carried.{Carried}
use Rattle.cordyceps_c_base.specs.Elements.{HoldsElement}
use Rattle.cordyceps_c_shared.specs.declared.inbox.Sent.{Sent}
use Rattle.cordyceps_c_shared.specs.declared.inbox.Sent.TheVariants.{Done, Full, NoMemory}

-- the element that has a payload, and the payload of an element
abbrev pub letter_of : ℕ → Element Carried
letter_of p = record { id = 0; value = record { value = p } }

abbrev pub payload_of : Element Carried → ℕ
payload_of e = e.value.value

-- it is the only handle of its inbox, and has all its rooms
abbrev pub IsNew : (rooms : ℕ) → Inbox → Type 0
IsNew rooms i = (i.party ≡ new_party i.party.table rooms) × (capacity i.party.table ≡ rooms)

-- a further handle k of the same inbox came of it, without rooms
abbrev pub SplitsOff : Inbox → Inbox → Inbox → Type 0
SplitsOff i j k =
    (j.queue ≡ i.queue) × (arc_value k.queue ≡ arc_value i.queue) × (j.party ≡ keeping 0 i.party)
    × (k.party ≡ giving 0 i.party)

abbrev pub TriesToSplit : Inbox → Inbox → Option Inbox → Type 0
TriesToSplit i j made = MatchOption made (j ≡ i) (SplitsOff i j)

-- it took over the rooms and the history of the handle k
abbrev pub TakesOver : Inbox → Inbox → Inbox → Type 0
TakesOver i k j = (j.queue ≡ i.queue) × Absorbs (λ h. Legal h) i.party k.party j.party

-- it is as it was, or a handle that was split off it was taken over again
abbrev pub KeepsOrRejoins : Inbox → Inbox → Type 0
KeepsOrRejoins i j = (j ≡ i) ⊎ ((kept : Inbox) × (given : Inbox) × SplitsOff i kept given × TakesOver kept given j)

-- what became of an element that was to be sent
abbrev pub Ends : Element Carried → Sent → Inbox → Inbox → Type 0
Ends e Done i j = EnqueuesRefilled e i.party j.party
Ends e Full i j = FindsFull i.party j.party × (i.party.share ≡ whole → HasAllRooms j.party)
Ends e NoMemory i j = j.party ≡ i.party

abbrev pub TriesToSend : Element Carried → Sent → Inbox → Inbox → Type 0
TriesToSend e sent i j = (j.queue ≡ i.queue) × Ends e sent i j

-- what became of a node that was to be sent, and what its handle holds then
abbrev pub SendsNode : Element Carried → ℕ → Option (Block Carried) → Inbox → Inbox → Type 0
SendsNode e result left i j =
    ((result ≡ DONE) × (left ≡ None) × TriesToSend e Done i j)
    ⊎ ((result ≡ FULL) × HoldsElement left e × TriesToSend e Full i j)

-- the handle holds what a try to receive found
abbrev pub HoldsTried : Option (Block Carried) → Result (Element Carried) TryDequeueError → Type 0
HoldsTried held (Ok e) = HoldsElement held e
HoldsTried held (Err why) = held ≡ None

-- it sent and received nothing; with true, it has no room left, and it is true where the party is whole
abbrev pub GivesRooms : Bool → Inbox → Inbox → Type 0
GivesRooms given i j =
    (j.queue ≡ i.queue) × Moves payload_of [] [] i.party j.party × (given ≡ true → j.party.rooms ≡ 0)
    × (i.party.share ≡ whole → given ≡ true)

-- it had at most so many rooms, or it gave all to the pool, unless other handles gave rooms back each time that it tried
abbrev pub KeepsAtMost : ℕ → Inbox → Inbox → Type 0
KeepsAtMost most i j = ((i.party.rooms ≤ most) × (j ≡ i)) ⊎ ((most < i.party.rooms) × ((given : Bool) × GivesRooms given i j))

-- it tried once to take an element out
abbrev pub Finds : Result (Element Carried) TryDequeueError → Inbox → Inbox → Type 0
Finds tried i j = (j.queue ≡ i.queue) × Dequeues tried i.party j.party

-- the same, and then it kept only some rooms, or none where no element was there
abbrev pub Receives : Result (Element Carried) TryDequeueError → Inbox → Inbox → Type 0
Receives (Ok e) i j = (k : Inbox) × Finds (Ok e) i k × KeepsAtMost KEPT k j
Receives (Err FindsEmpty) i j = (k : Inbox) × Finds (Err FindsEmpty) i k × KeepsAtMost 0 k j
Receives (Err FindsInconsistent) i j = Finds (Err FindsInconsistent) i j
Receives (Err FindsBusy) i j = Finds (Err FindsBusy) i j

-- the numbers that C gets
abbrev pub number_of_sent : Sent → ℕ
number_of_sent Done = DONE
number_of_sent Full = FULL
number_of_sent NoMemory = NO_MEMORY

abbrev pub number_of_error : TryDequeueError → ℕ
number_of_error FindsEmpty = EMPTY
number_of_error FindsInconsistent = UNLINKED
number_of_error FindsBusy = BUSY

abbrev pub number_of_try : Result (Element Carried) TryDequeueError → ℕ
number_of_try (Ok e) = DONE
number_of_try (Err why) = number_of_error why

-- the payload that came out, or what was there before
abbrev pub payload_after : ℕ → Result (Element Carried) TryDequeueError → ℕ
payload_after old (Ok e) = payload_of e
payload_after old (Err why) = old
