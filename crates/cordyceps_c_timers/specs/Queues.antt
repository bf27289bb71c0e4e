-- The items of a priority queue, each with the place of its node: the least key first, equals as they were pushed.
use Rattle.std.specs.Prelude.{◌≡◌, ℕ, [], ◌∷◌, List, Bool, MatchBool, Option, None, Some, MatchOption}
use Rattle.std.specs.Ordering.{nat_cmp}
use denote.RawPtr.{Ptr}
use Rattle.cordyceps_base.specs.Element.{Element}
use Rattle.cordyceps_base.specs.Nodes.{Nodes}
use Rattle.cordyceps_single.specs.ByKey.{by_key}
use Rattle.cordyceps_base.specs.BySpot.{IsTaken}
use Rattle.cordyceps_base.specs.DoubleLines.{flat}
use Rattle.cordyceps_heap.specs.Heap.{Holds}
use Rattle.cordyceps_c_base.specs.declared.tickets.Ticket.{Ticket}
use Rattle.cordyceps_c_base.specs.declared.tickets.Tickets.{Tickets}
use Rattle.cordyceps_c_base.specs.Tickets.{Bears, Ends, Fit, Gives, GivesNone, NoneBears, Ticketed, no_ticket}
use Rattle.cordyceps_c_timers.specs.Arranged.{placed}
use Rattle.cordyceps_c_timers.specs.declared.queue.Item.{Item}
use Rattle.cordyceps_c_timers.specs.declared.queue.Ranked.{Ranked}

-- what a contract sees of a queue, its items in the order in which they come out
abbrev pub Queued : Type 0
Queued = Ticketed Ranked

abbrev pub key_of : Ranked → ℕ
key_of r = r.key

-- where the ticket of an item is
abbrev pub slot_of : Ranked → ℕ
slot_of r = r.slot

-- an item as C sees it
abbrev pub item_of : Element Ranked → Item
item_of e = record { key = e.value.key; payload = e.value.payload }

abbrev pub new_item : (key payload : ℕ) → Ticket → Element Ranked
new_item key p k = record { id = k.number; value = record { key = key; payload = p; slot = k.slot } }

abbrev pub with_key : ℕ → Element Ranked → Element Ranked
with_key key e = record { id = e.id; value = record { key = key; payload = e.value.payload; slot = e.value.slot } }

-- what a queue's heap and tickets are kept as: the tickets lead to the items, and the heap holds some arrivals
pub record AreKept (s : Tickets) (lines : List (Nodes Ranked)) : Type 0 where
  pub fit : Fit slot_of s (flat lines)
  pub arrivals : Nodes Ranked
  pub held : Holds (by_key nat_cmp key_of) lines arrivals

-- an item was pushed, or all is as it was
abbrev pub Pushes : (key payload : ℕ) → Option Ticket → Queued → Queued → Type 0
Pushes key p None t u = u ≡ t
Pushes key p (Some k) t u =
    Gives slot_of k t u
    × ((spot : Ptr) × (u ≡ record t { nodes = placed key_of spot (new_item key p k) t.nodes; given = k.number }))

-- the first item, or none
abbrev pub IsFirst : Option Item → Queued → Type 0
IsFirst first t = MatchOption first (t.nodes ≡ [])
    (λ item. (spot : Ptr) × (e : Element Ranked) × (others : Nodes Ranked)
    × (t.nodes ≡ (spot, e) ∷ others) × (item ≡ item_of e))

-- the first item came out, and its ticket is stale, or none is there, and all is as it was
abbrev pub Pops : Option Item → Queued → Queued → Type 0
Pops None t u = (t.nodes ≡ []) × (u ≡ t)
Pops (Some item) t u =
    (spot : Ptr) × (e : Element Ranked) × (t.nodes ≡ (spot, e) ∷ u.nodes) × (item ≡ item_of e)
    × (u ≡ record t { nodes = u.nodes }) × Ends slot_of e t u

-- the item that has the ticket came out, and the ticket is stale
pub record IsRemoved (k : Ticket) (item : Item) (t u : Queued) : Type 0 where
  pub spot : Ptr
  pub ranked : Element Ranked
  pub bears : Bears slot_of t.collection k ranked
  pub taken : IsTaken t.nodes spot ranked u.nodes
  pub is : item ≡ item_of ranked
  pub kept : u ≡ record t { nodes = u.nodes }
  pub ended : Ends slot_of ranked t u

-- it came out, or no item has the ticket, and all is as it was
abbrev pub Removes : Ticket → Option Item → Queued → Queued → Type 0
Removes k None t u = NoneBears slot_of t.collection k t.nodes × (u ≡ t)
Removes k (Some item) t u = IsRemoved k item t u

-- the item that has the ticket got another key, as if it were pushed now; it keeps its ticket
pub record IsChanged (k : Ticket) (key : ℕ) (t u : Queued) : Type 0 where
  pub spot : Ptr
  pub ranked : Element Ranked
  pub others : Nodes Ranked
  pub bears : Bears slot_of t.collection k ranked
  pub taken : IsTaken t.nodes spot ranked others
  pub put : u ≡ record t { nodes = placed key_of spot (with_key key ranked) others }
  pub stale : GivesNone slot_of t u

abbrev pub Changes : Ticket → (key : ℕ) → Bool → Queued → Queued → Type 0
Changes k key is_changed t u =
    MatchBool is_changed (IsChanged k key t u) (NoneBears slot_of t.collection k t.nodes × (u ≡ t))

-- The same by the place of a node, which nothing checks.

-- an item without a ticket was pushed, or all is as it was
abbrev pub PushesAt : (key payload : ℕ) → Option Ptr → Queued → Queued → Type 0
PushesAt key p None t u = u ≡ t
PushesAt key p (Some spot) t u =
    (u ≡ record t { nodes = placed key_of spot (new_item key p no_ticket) t.nodes }) × GivesNone slot_of t u

-- the item at the spot came out, and its ticket is stale, if it had one
abbrev pub RemovesAt : Ptr → Item → Queued → Queued → Type 0
RemovesAt spot item t u =
    (ranked : Element Ranked) × IsTaken t.nodes spot ranked u.nodes × (item ≡ item_of ranked)
    × (u ≡ record t { nodes = u.nodes }) × Ends slot_of ranked t u

-- the item at the spot got another key, as if it were pushed now
abbrev pub ChangesAt : Ptr → (key : ℕ) → Queued → Queued → Type 0
ChangesAt spot key t u =
    (ranked : Element Ranked) × (others : Nodes Ranked) × IsTaken t.nodes spot ranked others
    × (u ≡ record t { nodes = placed key_of spot (with_key key ranked) others }) × GivesNone slot_of t u
