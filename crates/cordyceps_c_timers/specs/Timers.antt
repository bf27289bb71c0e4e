-- Timers, each with the place of its node: the first to fire first, equals as they were started.
use Rattle.std.specs.Prelude.{◌≡◌, ◌⊎◌, ℕ, ◌≤◌, ◌<◌, max, [], ◌∷◌, Bool, MatchBool, Option, None, Some, MatchOption}
use Rattle.std.specs.List.{AllByRecursion}
use denote.RawPtr.{Ptr}
use Rattle.cordyceps_base.specs.Element.{Element}
use Rattle.cordyceps_base.specs.Nodes.{Nodes}
use Rattle.cordyceps_base.specs.BySpot.{IsTaken}
use Rattle.cordyceps_clock.specs.Clock.{rounded}
use Rattle.cordyceps_c_base.specs.declared.tickets.Ticket.{Ticket}
use Rattle.cordyceps_c_base.specs.Tickets.{Bears, Ends, Gives, GivesNone, NoneBears, Ticketed, no_ticket}
use Rattle.cordyceps_c_timers.specs.Arranged.{placed}
use Rattle.cordyceps_c_timers.specs.declared.timers.Fired.{Fired}
use Rattle.cordyceps_c_timers.specs.declared.timers.Timer.{Timer}

-- what a contract sees of timers: those that run, in the order in which they fire; the clock; the number that their
-- maker chose; and how many tickets were given
pub record Running : Type 0 where
  pub nodes : Nodes Timer
  pub clock : ℕ
  pub collection : ℕ
  pub given : ℕ

-- the timers with their tickets, without the clock
abbrev pub timers_of : Running → Ticketed Timer
timers_of t = record { nodes = t.nodes; collection = t.collection; given = t.given }

-- the time at which a timer fires
abbrev pub due_of : Timer → ℕ
due_of t = t.due

-- where the ticket of a timer is
abbrev pub slot_of : Timer → ℕ
slot_of t = t.slot

-- a timer as C sees it
abbrev pub fired_of : Element Timer → Fired
fired_of e = record { deadline = e.value.deadline; payload = e.value.payload }

-- a new timer: it fires at its deadline, or at the clock, if the deadline has passed
abbrev pub new_timer : (clock deadline payload : ℕ) → Ticket → Element Timer
new_timer clock d p k =
    record { id = k.number; value = record { due = max d clock; deadline = d; payload = p; slot = k.slot } }

-- the timer with another deadline
abbrev pub with_deadline : (clock deadline : ℕ) → Element Timer → Element Timer
with_deadline clock d e = record {
  id = e.id;
  value = record { due = max d clock; deadline = d; payload = e.value.payload; slot = e.value.slot };
}

-- a timer was started, or all is as it was
abbrev pub Starts : (deadline payload : ℕ) → Option Ticket → Running → Running → Type 0
Starts d p None t u = u ≡ t
Starts d p (Some k) t u =
    Gives slot_of k (timers_of t) (timers_of u)
    × ((spot : Ptr) × (u ≡ record t { nodes = placed due_of spot (new_timer t.clock d p k) t.nodes; given = k.number }))

-- the timer that has the ticket was taken out, and the ticket is stale
pub record IsStopped (k : Ticket) (f : Fired) (t u : Running) : Type 0 where
  pub spot : Ptr
  pub timer : Element Timer
  pub bears : Bears slot_of t.collection k timer
  pub taken : IsTaken t.nodes spot timer u.nodes
  pub is : f ≡ fired_of timer
  pub kept : u ≡ record t { nodes = u.nodes }
  pub ended : Ends slot_of timer (timers_of t) (timers_of u)

-- it was taken out, or no timer has the ticket, and all is as it was
abbrev pub Stops : Ticket → Option Fired → Running → Running → Type 0
Stops k None t u = NoneBears slot_of t.collection k t.nodes × (u ≡ t)
Stops k (Some f) t u = IsStopped k f t u

-- the timer that has the ticket got another deadline, as if it were started now; it keeps its ticket
pub record IsRestarted (k : Ticket) (d : ℕ) (t u : Running) : Type 0 where
  pub spot : Ptr
  pub timer : Element Timer
  pub others : Nodes Timer
  pub bears : Bears slot_of t.collection k timer
  pub taken : IsTaken t.nodes spot timer others
  pub put : u ≡ record t { nodes = placed due_of spot (with_deadline t.clock d timer) others }
  pub stale : GivesNone slot_of (timers_of t) (timers_of u)

abbrev pub Restarts : Ticket → (deadline : ℕ) → Bool → Running → Running → Type 0
Restarts k d is_restarted t u =
    MatchBool is_restarted (IsRestarted k d t u) (NoneBears slot_of t.collection k t.nodes × (u ≡ t))

-- The same by the place of a node, which nothing checks.

-- a timer without a ticket was started, or all is as it was
abbrev pub StartsAt : (deadline payload : ℕ) → Option Ptr → Running → Running → Type 0
StartsAt d p None t u = u ≡ t
StartsAt d p (Some spot) t u =
    (u ≡ record t { nodes = placed due_of spot (new_timer t.clock d p no_ticket) t.nodes })
    × GivesNone slot_of (timers_of t) (timers_of u)

-- the timer at the spot was taken out, and its ticket is stale, if it had one
abbrev pub StopsAt : Ptr → Fired → Running → Running → Type 0
StopsAt spot f t u =
    (timer : Element Timer) × IsTaken t.nodes spot timer u.nodes × (f ≡ fired_of timer)
    × (u ≡ record t { nodes = u.nodes }) × Ends slot_of timer (timers_of t) (timers_of u)

-- the timer at the spot got another deadline, as if it were started now
abbrev pub RestartsAt : Ptr → (deadline : ℕ) → Running → Running → Type 0
RestartsAt spot d t u =
    (timer : Element Timer) × (others : Nodes Timer) × IsTaken t.nodes spot timer others
    × (u ≡ record t { nodes = placed due_of spot (with_deadline t.clock d timer) others })
    × GivesNone slot_of (timers_of t) (timers_of u)

-- the first timer fired, at the time `now` or before, and came out; its time is the clock, and its ticket is stale
pub record Fires (now : ℕ) (f : Fired) (t u : Running) : Type 0 where
  pub spot : Ptr
  pub timer : Element Timer
  pub first : t.nodes ≡ (spot, timer) ∷ u.nodes
  pub is : f ≡ fired_of timer
  pub due : timer.value.due ≤ now
  pub kept : u ≡ record t { nodes = u.nodes; clock = timer.value.due }
  pub ended : Ends slot_of timer (timers_of t) (timers_of u)

-- no timer fires at the time `now` or before; all stay, and the clock is not before `now`
abbrev pub NoneFires : (now : ℕ) → Running → Running → Type 0
NoneFires now t u =
    AllByRecursion (λ n. now < due_of n.1.value) t.nodes × (u ≡ record t { clock = max t.clock now })

-- a time before which no timer fires; it is the clock only if one fires then
pub record IsBound (time : ℕ) (t : Running) : Type 0 where
  pub none_before : AllByRecursion (λ n. time ≤ due_of n.1.value) t.nodes
  pub spot : Ptr
  pub timer : Element Timer
  pub others : Nodes Timer
  pub first : t.nodes ≡ (spot, timer) ∷ others
  pub near : time ≡ rounded t.clock timer.value.due
  pub later : (t.clock < time) ⊎ (timer.value.due ≡ time)

-- the bound where a timer runs
abbrev pub Bounds : Option ℕ → Running → Type 0
Bounds bound t = MatchOption bound (t.nodes ≡ []) (λ time. IsBound time t)
