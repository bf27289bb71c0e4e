-- Requests that wait for a disk, each at its spot: by sector, and by deadline.
use Rattle.std.specs.Prelude.{◌≡◌, ℕ, ◌<◌, ◌≤◌, List, [], ◌∷◌, ◌++◌, ◌⊎◌, nat_lt, if◌then◌else◌}
use denote.RawPtr.{Ptr}
use Rattle.cordyceps.specs.Elements.Element.{Element}
use Rattle.cordyceps.specs.Elements.Nodes.{Nodes}
use Rattle.cordyceps.specs.Spots.Agreeing.{HasElementAt}
use Rattle.cordyceps.specs.Spots.BySpot.{IsTaken}
use Rattle.cordyceps_disk.specs.declared.request.Request.{Request}

module _ {A : Type 0} where
  -- one more, after all whose key is not greater
  abbrev pub put_by : (A → ℕ) → A → List A → List A
  put_by key x [] = x ∷ []
  put_by key x (y ∷ s) = if nat_lt (key x) (key y) then x ∷ y ∷ s else y ∷ put_by key x s

  -- x was taken out of s, and r is left
  abbrev pub IsOut : List A → A → List A → Type 0
  IsOut s x r = (before : List A) × (after : List A) × (s ≡ before ++ x ∷ after) × (r ≡ before ++ after)

module _ {X : Type 0} where
  -- p holds of each value
  abbrev pub Each : Nodes X → (X → Type 0) → Type 0
  Each c p = (q : Ptr) (e : Element X) → HasElementAt c q e → p e.value

  -- p holds of some value
  abbrev pub Any : Nodes X → (X → Type 0) → Type 0
  Any c p = (q : Ptr) × (e : Element X) × HasElementAt c q e × p e.value

-- what a contract sees of a queue: the requests by sector, their deadlines and spots by deadline, and the head's sector
pub record Queue (P : Type 0) : Type 0 where
  pub waiting : Nodes (Request P)
  pub due : List (ℕ × Ptr)
  pub head : ℕ

module _ {P : Type 0} where
  -- a request as it waits; its number is its sector
  abbrev pub element : Request P → Element (Request P)
  element r = record { id = r.sector; value = r }

  -- the queue with one more request, at p: in both orders after its equals
  abbrev pub submitted : Ptr → Request P → Queue P → Queue P
  submitted p r q = record {
    waiting = put_by (λ n. n.1.value.sector) (p, element r) q.waiting;
    due = put_by (λ d. d.0) (r.deadline, p) q.due;
    head = q.head;
  }

  -- the request r at p left both orders of q, and w has the others
  pub record HasLeft (p : Ptr) (r : Request P) (q w : Queue P) : Type 0 where
    pub waiting : IsTaken q.waiting p (element r) w.waiting
    pub due : IsOut q.due (r.deadline, p) w.due

  -- the request r at p is overdue, and of those with the earliest deadline it came first
  pub record IsUrgent (now : ℕ) (p : Ptr) (r : Request P) (q : Queue P) : Type 0 where
    pub overdue : r.deadline < now
    pub earliest : Each q.waiting (λ w. r.deadline ≤ w.deadline)
    pub first : (rest : List (ℕ × Ptr)) × (q.due ≡ (r.deadline, p) ∷ rest)

  -- the request r at p is the first at or above the head, or where there is none the first of all: those before it are
  -- below the head, and those after it not below it
  pub record IsUpwards (p : Ptr) (r : Request P) (q : Queue P) : Type 0 where
    pub before : Nodes (Request P)
    pub after : Nodes (Request P)
    pub waiting : q.waiting ≡ before ++ (p, element r) ∷ after
    pub turn : (Each before (λ w. w.sector < q.head) × (q.head ≤ r.sector))
        ⊎ ((before ≡ []) × Each q.waiting (λ w. w.sector < q.head))
    pub least : Each after (λ w. r.sector ≤ w.sector)

  -- the request r at p is the one to be served at a time
  pub record IsNext (now : ℕ) (p : Ptr) (r : Request P) (q : Queue P) : Type 0 where
    pub lies : HasElementAt q.waiting p (element r)
    pub urgent : Any q.waiting (λ w. w.deadline < now) → IsUrgent now p r q
    pub upwards : Each q.waiting (λ w. now ≤ w.deadline) → IsUpwards p r q
