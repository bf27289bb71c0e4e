-- When a machine meets a history.
use Rattle.std.specs.Prelude.{◌≡◌, ℕ, zero, suc, ◌≤◌, ◌≢◌, ◌⊎◌, List, [], ◌∷◌, map, length, Option, Some, None}
use Rattle.cordyceps_shared.specs.Places.{ItemAt}
use Rattle.cordyceps_queue.specs.History.{Event}
use Rattle.cordyceps_queue.specs.Past.{held_reversed, holder_reversed, IsSettled, IsPendingAt, HasLooked}
use Rattle.cordyceps_queue.specs.Past.{WasBlockedReversed, IsLegalReversed}
use Rattle.cordyceps_queue.specs.declared.cores.stage.Stage.{Stage}
use Rattle.cordyceps_queue.specs.declared.cores.stage.Stage.TheVariants.{Rest, Cleared, Swapped, Holding, StubNull}
use Rattle.cordyceps_queue.specs.declared.cores.stage.Stage.TheVariants.{Second, Null, PutClear, PutSwap, PutLink}
use Rattle.cordyceps_queue.specs.declared.cores.stage.Stage.TheVariants.{PutRead}
use Rattle.cordyceps_queue.specs.Cores.Abstract.{AbstractParty, AbstractMachine}

-- the rooms without the stub's
abbrev pub real : List ℕ → List ℕ
real [] = []
real (zero ∷ rs) = real rs
real (suc r ∷ rs) = suc r ∷ real rs

-- how many of the first i rooms are not the stub's
abbrev pub rank : List ℕ → ℕ → ℕ
rank rs zero = 0
rank [] (suc i) = 0
rank (zero ∷ rs) (suc i) = rank rs i
rank (suc r ∷ rs) (suc i) = suc (rank rs i)

-- Whose a room is: the structure's, free with a party, cleared by a party, in the pool, or not made yet
pub data Owner : Type 0 where
  Shared : Owner
  Spare : ℕ → Owner
  Ready : ℕ → Owner
  Pooled : Owner
  Unmade : Owner

-- the party at this stage still has to link a to b
abbrev pub Owes : Stage → ℕ → ℕ → Type 0
Owes (Swapped r old) a b = (a ≡ old) × (b ≡ r)
Owes (PutLink t old) a b = (a ≡ old) × (b ≡ 0)
Owes _ a b = ⊥

-- the tail that a party with the right has
abbrev pub tail_of : Stage → Option ℕ
tail_of Rest = None
tail_of (Cleared r) = None
tail_of (Swapped r old) = None
tail_of (Holding t) = Some t
tail_of StubNull = Some 0
tail_of (Second t) = Some t
tail_of (Null t) = Some t
tail_of (PutClear t) = Some t
tail_of (PutSwap t) = Some t
tail_of (PutLink t old) = Some t
tail_of (PutRead t) = Some t

-- The ghost state: the rooms from the tail to head, whose each room is, and which party has the right
pub record Chain : Type 0 where
  pub rooms : List ℕ
  pub owner : ℕ → Owner
  pub keeper : Option ℕ

abbrev pub IsOut : List ℕ → Type 0
IsOut rooms = (i : ℕ) → ItemAt rooms i 0 → ⊥

-- the free rooms are the party's own, each once
pub record OwnsRooms (owner : ℕ → Owner) (k : ℕ) (spare : List ℕ) : Type 0 where
  pub own : (i r : ℕ) → ItemAt spare i r → owner r ≡ Spare k
  pub once : (i j r : ℕ) → ItemAt spare i r → ItemAt spare j r → i ≡ j

module _ {P : Type 0} where
  -- a party owes the link of a to b
  pub record Owed (party : ℕ → Option (AbstractParty P)) (a b : ℕ) : Type 0 where
    pub by : ℕ
    pub who : AbstractParty P
    pub there : party by ≡ Some who
    pub owes : Owes who.stage a b

  -- rooms a and b are neighbours in the chain: a links to b, or a party still has to link them
  abbrev pub Joined : (ℕ → Option ℕ) → (ℕ → Option (AbstractParty P)) → ℕ → ℕ → Type 0
  Joined next party a b = (next a ≡ Some b) ⊎ ((next a ≡ None) × Owed party a b)

-- no party has this name
abbrev pub IsStranger : {P : Type 0} → (ℕ → Option (AbstractParty P)) → P → Type 0
IsStranger {P} party q = (k : ℕ) (p : AbstractParty P) → party k ≡ Some p → p.name ≢ q

-- the party k with this name has the right, and its tail is t
pub record Keeps {P E : Type 0} (keeper : Option ℕ) (rooms : List ℕ) (h : List (Event P E)) (k : ℕ) (name : P)
    (t : ℕ) : Type 0 where
  pub kept : keeper ≡ Some k
  pub held_by : holder_reversed h ≡ Some name
  pub tail : ItemAt rooms 0 t
  pub settled : IsSettled name h

-- the same, the tail is no stub, and the party has looked
pub record Real {P E : Type 0} (keeper : Option ℕ) (rooms : List ℕ) (h : List (Event P E)) (k : ℕ) (name : P)
    (t : ℕ) : Type 0 where
  pub keeps : Keeps keeper rooms h k name t
  pub is_real : t ≢ 0
  pub looked : HasLooked name h

-- the party k with this name has cleared room r, which has an element
pub record HasReady {P E : Type 0} (next : ℕ → Option ℕ) (cell : ℕ → Option E) (owner : ℕ → Owner)
    (h : List (Event P E)) (k : ℕ) (name : P) (r : ℕ) : Type 0 where
  pub settled : IsSettled name h
  pub ready : owner r ≡ Ready k
  pub is_real : r ≢ 0
  pub null : next r ≡ None
  pub element : E
  pub full : cell r ≡ Some element

-- the party with this name has put room r in behind old, which is yet to lead to it
pub record HasOpen {P E : Type 0} (next : ℕ → Option ℕ) (rooms : List ℕ) (h : List (Event P E)) (name : P)
    (r old : ℕ) : Type 0 where
  pub at : ℕ
  pub old_at : ItemAt rooms at old
  pub room_at : ItemAt rooms (suc at) r
  pub is_real : r ≢ 0
  pub null : next old ≡ None
  pub pending : IsPendingAt name (rank rooms (suc at)) h

-- the party k with this name found that the stub, which is the tail, leads to no room
pub record HasNull {P E : Type 0} (head : ℕ) (keeper : Option ℕ) (rooms : List ℕ) (h : List (Event P E)) (k : ℕ)
    (name : P) : Type 0 where
  pub keeps : Keeps keeper rooms h k name 0
  pub looked : HasLooked name h
  pub blocked : head ≢ 0 → WasBlockedReversed name h

-- the party k with this name has cleared the stub, which is in no chain
pub record HasClearStub {P E : Type 0} (next : ℕ → Option ℕ) (keeper : Option ℕ) (rooms : List ℕ)
    (h : List (Event P E)) (k : ℕ) (name : P) (t : ℕ) : Type 0 where
  pub has : Real keeper rooms h k name t
  pub out : IsOut rooms
  pub null : next 0 ≡ None

-- it has put the stub in behind old, which is yet to lead to it
pub record HasOpenStub {P E : Type 0} (next : ℕ → Option ℕ) (keeper : Option ℕ) (rooms : List ℕ)
    (h : List (Event P E)) (k : ℕ) (name : P) (t old : ℕ) : Type 0 where
  pub has : Real keeper rooms h k name t
  pub at : ℕ
  pub old_at : ItemAt rooms at old
  pub stub_at : ItemAt rooms (suc at) 0
  pub null : next old ≡ None

module _ {P E : Type 0} (head : ℕ) (next : ℕ → Option ℕ) (cell : ℕ → Option E) (owner : ℕ → Owner) (keeper : Option ℕ)
    (rooms : List ℕ) (h : List (Event P E)) where
  -- what holds of party k at this stage
  abbrev pub AtStage : ℕ → P → Stage → Type 0
  AtStage k name Rest = IsSettled name h
  AtStage k name (Cleared r) = HasReady next cell owner h k name r
  AtStage k name (Swapped r old) = HasOpen next rooms h name r old
  AtStage k name (Holding t) = Keeps keeper rooms h k name t
  AtStage k name StubNull = HasNull head keeper rooms h k name
  AtStage k name (Second t) = Real keeper rooms h k name t
  AtStage k name (Null t) = Real keeper rooms h k name t × (head ≢ t → WasBlockedReversed name h)
  AtStage k name (PutClear t) = Real keeper rooms h k name t × IsOut rooms
  AtStage k name (PutSwap t) = HasClearStub next keeper rooms h k name t
  AtStage k name (PutLink t old) = HasOpenStub next keeper rooms h k name t old
  AtStage k name (PutRead t) = Real keeper rooms h k name t × (head ≢ t)

-- nobody has the right, and its word is the tail's room and 1
pub record IsFree {P E : Type 0} (right : ℕ) (rooms : List ℕ) (h : List (Event P E)) : Type 0 where
  pub unheld : holder_reversed h ≡ None
  pub tail : ℕ
  pub right_is : right ≡ suc tail
  pub tail_at : ItemAt rooms 0 tail

-- party k has the right, and its tail
pub record IsTaken {P E : Type 0} (right : ℕ) (party : ℕ → Option (AbstractParty P)) (h : List (Event P E))
    (k : ℕ) : Type 0 where
  pub zero_is : right ≡ 0
  pub by : AbstractParty P
  pub tail : ℕ
  pub there : party k ≡ Some by
  pub has : tail_of by.stage ≡ Some tail
  pub held : holder_reversed h ≡ Some by.name

-- the right is out with a party, or it is the tail's room and 1
abbrev pub RightIs : {P E : Type 0} → ℕ → (ℕ → Option (AbstractParty P)) → List ℕ → List (Event P E) → Option ℕ → Type 0
RightIs right party rooms h None = IsFree right rooms h
RightIs right party rooms h (Some k) = IsTaken right party h k

-- head is the last of the rooms
pub record EndsAt (rooms : List ℕ) (head : ℕ) : Type 0 where
  pub at : ℕ
  pub long : length rooms ≡ suc at
  pub head_at : ItemAt rooms at head

pub record Meets {P E : Type 0} (m : AbstractMachine P E) (c : Chain) (h : List (Event P E)) : Type 0 where
  pub legal : IsLegalReversed h
  -- the chain
  pub last : EndsAt c.rooms m.head
  pub ends : m.next m.head ≡ None
  pub joined : (i a b : ℕ) → ItemAt c.rooms i a → ItemAt c.rooms (suc i) b → Joined m.next m.party a b
  pub once : (i j r : ℕ) → ItemAt c.rooms i r → ItemAt c.rooms j r → i ≡ j
  pub shared : (i r : ℕ) → ItemAt c.rooms i r → c.owner r ≡ Shared
  pub stub : c.owner 0 ≡ Shared
  pub unmade : (r : ℕ) → m.count ≤ r → c.owner r ≡ Unmade
  pub holds : map m.cell (real c.rooms) ≡ map Some (held_reversed h)
  -- the parties
  pub right : RightIs m.right m.party c.rooms h c.keeper
  pub fits : (k : ℕ) (p : AbstractParty P) → m.party k ≡ Some p →
      AtStage m.head m.next m.cell c.owner c.keeper c.rooms h k p.name p.stage
  pub rooms : (k : ℕ) (p : AbstractParty P) → m.party k ≡ Some p → OwnsRooms c.owner k p.spare
  pub names : (j k : ℕ) (p q : AbstractParty P) → m.party j ≡ Some p → m.party k ≡ Some q → p.name ≡ q.name → j ≡ k
  pub strangers : (q : P) → IsStranger m.party q → IsSettled q h
