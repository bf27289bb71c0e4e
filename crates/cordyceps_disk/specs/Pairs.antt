-- How requests and their tickets are kept: each knows where the other is.
use Rattle.std.specs.Prelude.{◌≡◌, ℕ, ◌≤◌, List, [], ◌∷◌, length, map, nat_lt, if◌then◌else◌, Option, Some, None}
use Rattle.std.specs.List.{AllByRecursion}
use denote.RawPtr.{Ptr, null_ptr}
use Rattle.cordyceps.specs.Elements.Element.{Element}
use Rattle.cordyceps.specs.Elements.Nodes.{Nodes, spots}
use Rattle.cordyceps.specs.Spots.Agreeing.{HasElementAt}
use Rattle.cordyceps.specs.Spots.DoubleLines.{flat}
use Rattle.cordyceps.specs.Spots.Heap.{Holds}
use Rattle.cordyceps.specs.Spots.Spots.{AreDistinct}
use Rattle.cordyceps_disk.specs.declared.request.Request.{Request}
use Rattle.cordyceps_disk.specs.declared.request.Ticket.{Ticket}
use Rattle.cordyceps_disk.specs.declared.request.Waiting.{Waiting}
use Rattle.cordyceps_disk.specs.Orders.{by_deadline}
use Rattle.cordyceps_disk.specs.Queue.{Queue, element, put_by}

-- in the order of keys
abbrev pub Rises : {A : Type 0} → (A → ℕ) → List A → Type 0
Rises key [] = Unit {0}
Rises key (x ∷ s) = AllByRecursion (λ y. key x ≤ key y) s × Rises key s

-- more, one after the other, each after its equals
abbrev pub put_all_by : {A : Type 0} → (A → ℕ) → List A → List A → List A
put_all_by key s [] = s
put_all_by key s (x ∷ more) = put_all_by key (put_by key x s) more

abbrev pub spot_or : Option Ptr → Ptr
spot_or None = null_ptr
spot_or (Some p) = p

abbrev pub deadline_of : Ptr × Element Ticket → ℕ
deadline_of n = n.1.value.deadline

-- the tickets in the lines of a heap, by deadline
abbrev pub tickets_in : List (Nodes Ticket) → Nodes Ticket
tickets_in lines = put_all_by deadline_of [] (flat lines)

-- what the tickets say: deadlines and spots
abbrev pub due_of : Nodes Ticket → List (ℕ × Ptr)
due_of t = map (λ n. (n.1.value.deadline, spot_or n.1.value.request)) t

module _ {P : Type 0} where
  abbrev pub sector_of : Ptr × Element (Waiting P) → ℕ
  sector_of n = n.1.value.request.sector

  abbrev pub waiting_of : Nodes (Waiting P) → Nodes (Request P)
  waiting_of c = map (λ n. (n.0, element n.1.value.request)) c

  abbrev pub seen : Nodes (Waiting P) → Nodes Ticket → ℕ → Queue P
  seen c t head = record { waiting = waiting_of c; due = due_of t; head = head }

  -- the spot of the first at or above a sector
  abbrev pub ahead_of : ℕ → Nodes (Waiting P) → Option Ptr
  ahead_of head [] = None
  ahead_of head (n ∷ c) = if nat_lt n.1.value.request.sector head then ahead_of head c else Some n.0

  -- the ticket of a request that is at q
  abbrev pub ticket_for : Ptr → Element (Waiting P) → Ticket
  ticket_for q e = record { deadline = e.value.request.deadline; request = Some q }

  pub record Paired (c : Nodes (Waiting P)) (t : Nodes Ticket) : Type 0 where
    pub by_sector : Rises sector_of c
    pub by_deadline : Rises deadline_of t
    pub distinct : AreDistinct (spots c)
    pub tickets_distinct : AreDistinct (spots t)
    pub length : length t ≡ length c
    pub ticket : (q : Ptr) (e : Element (Waiting P)) → HasElementAt c q e
        → (k : Element Ticket) × HasElementAt t e.value.ticket k
        × (k.value ≡ ticket_for q e)
    pub request : (u : Ptr) (k : Element Ticket) → HasElementAt t u k
        → (q : Ptr) × (e : Element (Waiting P)) × HasElementAt c q e
        × (e.value.ticket ≡ u) × (k.value ≡ ticket_for q e)

  -- requests, and a heap that holds their tickets as they are by deadline
  pub record Kept (c : Nodes (Waiting P)) (lines : List (Nodes Ticket)) : Type 0 where
    pub paired : Paired c (tickets_in lines)
    pub held : Holds by_deadline lines (tickets_in lines)
