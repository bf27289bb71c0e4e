-- What tickets lead to, and which elements have them.
use Rattle.std.specs.Prelude.{◌≡◌, ℕ, ◌+◌, ◌<◌, ◌≤◌, Some, None}
use Rattle.slab.specs.Slab.{get, HasRoomFor, SameValues, Updates}
use denote.RawPtr.{Ptr}
use Rattle.cordyceps_base.specs.Element.{Element}
use Rattle.cordyceps_base.specs.Nodes.{Nodes}
use Rattle.cordyceps_stable.specs.Agreeing.{HasElementAt}
use Rattle.cordyceps_c_base.specs.declared.tickets.Entry.{Entry}
use Rattle.cordyceps_c_base.specs.declared.tickets.Ticket.{Ticket}
use Rattle.cordyceps_c_base.specs.declared.tickets.Tickets.{Tickets}

-- the ticket is valid, and its element is at p
abbrev pub Leads : Tickets → Ticket → Ptr → Type 0
Leads s k p =
    (k.collection ≡ s.collection) × (get s.slots k.slot ≡ Some (record { number = k.number; spot = p }))

-- the ticket is the next one that is given, and there is room for it
pub record IsNext (s : Tickets) (k : Ticket) : Type 0 where
  pub collection : k.collection ≡ s.collection
  pub slot : k.slot ≡ s.slots.vacant_key
  pub vacant : get s.slots k.slot ≡ None
  pub number : k.number ≡ s.given + 1
  pub fits : HasRoomFor s.slots 1

-- the ticket of a slot was ended, if its number is not 0
pub record IsEnded (number slot : ℕ) (s t : Tickets) : Type 0 where
  pub collection : t.collection ≡ s.collection
  pub given : t.given ≡ s.given
  pub gone : 0 < number → Updates s.slots t.slots slot None
  pub kept : number ≡ 0 → SameValues s.slots t.slots

-- the ticket that no element has
abbrev pub no_ticket : Ticket
no_ticket = record { collection = 0; slot = 0; number = 0 }

-- the ticket is a new one of a collection of this number, which had given so many
abbrev pub IsGiven : (collection given : ℕ) → Ticket → Type 0
IsGiven collection given k = (k.collection ≡ collection) × (k.number ≡ given + 1)

-- what a contract sees of a collection with tickets: its elements, each with its spot; the number that its maker chose;
-- and how many tickets it has given
pub record Ticketed (X : Type 0) : Type 0 where
  pub nodes : Nodes X
  pub collection : ℕ
  pub given : ℕ

abbrev pub ticketed : {X : Type 0} → Tickets → Nodes X → Ticketed X
ticketed s c = record { nodes = c; collection = s.collection; given = s.given }

-- An element's number is that of its ticket, or 0 if it has none. A function of its value says in which slot it is.
-- Of a call, l is the collection before, and m after.
module _ {X : Type 0} (slot : X → ℕ) where
  -- the element has the ticket, in a collection of this number
  pub record Bears (collection : ℕ) (k : Ticket) (e : Element X) : Type 0 where
    pub of : k.collection ≡ collection
    pub slot_is : slot e.value ≡ k.slot
    pub number : e.id ≡ k.number
    pub given : 0 < k.number

  -- no element has it
  abbrev pub NoneBears : (collection : ℕ) → Ticket → Nodes X → Type 0
  NoneBears collection k c = (p : Ptr) (e : Element X) → HasElementAt c p e → Bears collection k e → ⊥

  -- no element has the ticket, and none will, since those to come have numbers above all that were given
  abbrev pub IsStale : Ticketed X → Ticket → Type 0
  IsStale l k = NoneBears l.collection k l.nodes × (k.number ≤ l.given)

  -- no ticket was given, and each stale one is stale still
  pub record GivesNone (l m : Ticketed X) : Type 0 where
    pub collection : m.collection ≡ l.collection
    pub given : m.given ≡ l.given
    pub stale : (o : Ticket) → IsStale l o → IsStale m o

  -- the ticket k was given, a new one, and each stale one is stale still
  pub record Gives (k : Ticket) (l m : Ticketed X) : Type 0 where
    pub is_new : IsGiven l.collection l.given k
    pub collection : m.collection ≡ l.collection
    pub given : m.given ≡ k.number
    pub stale : (o : Ticket) → IsStale l o → IsStale m o

  -- the element e came out, so its ticket is stale, if it had one; no ticket was given
  pub record Ends (e : Element X) (l m : Ticketed X) : Type 0 where
    pub ended : (k : Ticket) → Bears l.collection k e → IsStale m k
    pub rest : GivesNone l m

  -- the slot k, which has the entry n, is that of an element of c
  pub record Reaches (c : Nodes X) (k : ℕ) (n : Entry) : Type 0 where
    pub element : Element X
    pub lies : HasElementAt c n.spot element
    pub slot_is : slot element.value ≡ k
    pub number : element.id ≡ n.number
    pub given : 0 < n.number

  -- the valid tickets lead to the elements that have one
  pub record Fit (s : Tickets) (c : Nodes X) : Type 0 where
    pub found : (p : Ptr) (e : Element X) → HasElementAt c p e → 0 < e.id
        → get s.slots (slot e.value) ≡ Some (record { number = e.id; spot = p })
    pub there : (k : ℕ) (n : Entry) → get s.slots k ≡ Some n → Reaches c k n
    pub given : (k : ℕ) (n : Entry) → get s.slots k ≡ Some n → n.number ≤ s.given
