-- Lists whose elements have tickets, and what their calls do: l is the list before, and m after.
use Rattle.std.specs.Prelude.{◌≡◌, ℕ, ◌<◌, [], ◌∷◌, ◌++◌, ◌⊎◌}
use denote.RawPtr.{Ptr}
use Rattle.cordyceps_base.specs.Element.{Element}
use Rattle.cordyceps_base.specs.Nodes.{Nodes, spots}
use Rattle.cordyceps_stable.specs.Agreeing.{HasElementAt}
use Rattle.cordyceps_base.specs.BySpot.{IsTaken, IsPutBefore, IsPutAfter, IsMovedFront, IsMovedBack, IsMovedAfter}
use Rattle.cordyceps_base.specs.BySpot.{IsFirst, IsLast, AreNext}
use Rattle.cordyceps_base.specs.Spots.{AreDistinct}
use Rattle.cordyceps_c_base.specs.declared.tickets.Ticket.{Ticket}
use Rattle.cordyceps_c_base.specs.declared.tickets.Tickets.{Tickets}
use Rattle.cordyceps_c_base.specs.Tickets.{Bears, Ends, Fit, Gives, GivesNone, NoneBears, Ticketed}
use Rattle.cordyceps_c_lists.specs.declared.list.Item.{Item}

-- what a contract sees of a list, its elements in order
abbrev pub Listed : Type 0
Listed = Ticketed Item

-- in which slot the ticket of an element is
abbrev pub slot_of : Item → ℕ
slot_of i = i.slot

-- each element has a ticket, which leads to it, and no other ticket leads anywhere
pub record Sound (s : Tickets) (c : Nodes Item) : Type 0 where
  pub fit : Fit slot_of s c
  pub given : (p : Ptr) (e : Element Item) → HasElementAt c p e → 0 < e.id

-- ---- tickets

-- the element with a payload that a ticket is given to
abbrev pub new_element : Ticket → (payload : ℕ) → Element Item
new_element k x = record { id = k.number; value = record { payload = x; slot = k.slot } }

-- the ticket is of the element e, which alone is at p
pub record Names (l : Listed) (k : Ticket) (p : Ptr) (e : Element Item) : Type 0 where
  pub there : HasElementAt l.nodes p e
  pub bears : Bears slot_of l.collection k e
  pub alone : AreDistinct (spots l.nodes)

-- it is of an element that is at p
abbrev pub IsAt : Listed → Ticket → Ptr → Type 0
IsAt l k p = (e : Element Item) × Names l k p e

-- no element has the ticket
abbrev pub NamesNone : Listed → Ticket → Type 0
NamesNone l k = NoneBears slot_of l.collection k l.nodes

-- ---- one more element, which gets the ticket k

abbrev pub PushesFront : (payload : ℕ) → Ticket → Listed → Listed → Type 0
PushesFront x k l m = (q : Ptr) × (m.nodes ≡ (q, new_element k x) ∷ l.nodes) × Gives slot_of k l m

abbrev pub PushesBack : (payload : ℕ) → Ticket → Listed → Listed → Type 0
PushesBack x k l m = (q : Ptr) × (m.nodes ≡ l.nodes ++ (q, new_element k x) ∷ []) × Gives slot_of k l m

abbrev pub PutsBefore : (at : Ticket) (payload : ℕ) → Ticket → Listed → Listed → Type 0
PutsBefore at x k l m =
    (p : Ptr) × (q : Ptr) × IsAt l at p × IsPutBefore l.nodes p q (new_element k x) m.nodes × Gives slot_of k l m

abbrev pub PutsAfter : (at : Ticket) (payload : ℕ) → Ticket → Listed → Listed → Type 0
PutsAfter at x k l m =
    (p : Ptr) × (q : Ptr) × IsAt l at p × IsPutAfter l.nodes p q (new_element k x) m.nodes × Gives slot_of k l m

-- ---- one element less, whose payload is x

abbrev pub PopsFront : (payload : ℕ) → Listed → Listed → Type 0
PopsFront x l m =
    (p : Ptr) × (e : Element Item) × (l.nodes ≡ (p, e) ∷ m.nodes) × (x ≡ e.value.payload) × Ends slot_of e l m

abbrev pub PopsBack : (payload : ℕ) → Listed → Listed → Type 0
PopsBack x l m =
    (p : Ptr) × (e : Element Item) × (l.nodes ≡ m.nodes ++ (p, e) ∷ []) × (x ≡ e.value.payload) × Ends slot_of e l m

abbrev pub Removes : (at : Ticket) (payload : ℕ) → Listed → Listed → Type 0
Removes at x l m =
    (p : Ptr) × (e : Element Item) × Names l at p e × IsTaken l.nodes p e m.nodes × (x ≡ e.value.payload)
    × Ends slot_of e l m

-- ---- what is where

abbrev pub Holds : (at : Ticket) (payload : ℕ) → Listed → Type 0
Holds at x l = (p : Ptr) × (e : Element Item) × Names l at p e × (x ≡ e.value.payload)

abbrev pub NamesFirst : Ticket → Listed → Type 0
NamesFirst k l = (p : Ptr) × IsAt l k p × IsFirst l.nodes p

abbrev pub NamesLast : Ticket → Listed → Type 0
NamesLast k l = (p : Ptr) × IsAt l k p × IsLast l.nodes p

-- the element of the second ticket is the next one after that of the first
abbrev pub NamesNext : Ticket → Ticket → Listed → Type 0
NamesNext k o l = (p : Ptr) × (q : Ptr) × IsAt l k p × IsAt l o q × AreNext l.nodes p q

-- ---- an element in another place

abbrev pub MovesFront : (at : Ticket) → Listed → Listed → Type 0
MovesFront at l m = (p : Ptr) × IsAt l at p × IsMovedFront l.nodes p m.nodes × GivesNone slot_of l m

abbrev pub MovesBack : (at : Ticket) → Listed → Listed → Type 0
MovesBack at l m = (p : Ptr) × IsAt l at p × IsMovedBack l.nodes p m.nodes × GivesNone slot_of l m

abbrev pub MovesAfter : (at to : Ticket) → Listed → Listed → Type 0
MovesAfter at to l m =
    (p : Ptr) × (q : Ptr) × IsAt l at p × IsAt l to q × IsMovedAfter l.nodes p q m.nodes × GivesNone slot_of l m

-- one of the tickets is of no element, or they are the same
abbrev pub HasNoPair : Listed → Ticket → Ticket → Type 0
HasNoPair l at to = NamesNone l at ⊎ (NamesNone l to ⊎ (at ≡ to))
