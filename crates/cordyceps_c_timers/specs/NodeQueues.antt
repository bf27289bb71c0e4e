-- The words of the contracts of a priority queue of C's own nodes, in the order in which they come out.
use Rattle.std.specs.Prelude.{◌≡◌, ℕ, ◌∷◌, List}
use Rattle.std.specs.Ordering.{nat_cmp}
use denote.RawPtr.{Ptr}
use Rattle.cordyceps_base.specs.Element.{Element}
use Rattle.cordyceps_base.specs.Nodes.{Nodes}
use Rattle.cordyceps_single.specs.ByKey.{by_key}
use Rattle.cordyceps_base.specs.BySpot.{IsTaken}
use Rattle.cordyceps_heap.specs.Heap.{Holds}
use Rattle.cordyceps_c_base.specs.declared.carried.Carried.{Carried}
use Rattle.cordyceps_c_timers.specs.Arranged.{placed}

-- the number that orders the nodes
abbrev pub value_of : Carried → ℕ
value_of c = c.value

-- the element with another value
abbrev pub with_value : ℕ → Element Carried → Element Carried
with_value v e = record e { value = record { value = v } }

-- the heap's lines hold some arrivals
abbrev pub HasArrivals : List (Nodes Carried) → Type 0
HasArrivals ls = (a : Nodes Carried) × Holds (by_key nat_cmp value_of) ls a

-- the first node has the element e, and these are the others
abbrev pub Begins : Element Carried → Nodes Carried → Nodes Carried → Type 0
Begins e c rest = (p : Ptr) × (c ≡ (p, e) ∷ rest)

-- the node at p came out and went in again with the value v
abbrev pub ChangesValue : Ptr → ℕ → Nodes Carried → Nodes Carried → Type 0
ChangesValue p v c d =
    (e : Element Carried) × (others : Nodes Carried) × IsTaken c p e others
    × (d ≡ placed value_of p (with_value v e) others)
