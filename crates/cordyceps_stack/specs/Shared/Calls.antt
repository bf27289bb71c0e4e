-- What the calls of a shared transfer stack promise: of the party u before, and of the party w after.
use Rattle.std.specs.Prelude.{◌≡◌, ◌↔◌, ℕ, suc, ◌+◌, ◌<◌, ◌≤◌, List, [], ◌∷◌, ◌++◌, length, replicate}
use Rattle.std.specs.Prelude.{Bool, true, false, IsTrue, map, reverse}
use Rattle.cordyceps_shared.specs.Histories.{plain, own}
use Rattle.cordyceps_shared.specs.Shares.{Name}
use Rattle.cordyceps_shared.specs.Standings.{Standing, name_of}
use Rattle.cordyceps_shared.specs.Standings as parties
use Rattle.cordyceps_stack.specs.declared.shared.push_error.TryPushError.{TryPushError}
use Rattle.cordyceps_stack.specs.declared.shared.push_error.TryPushError.TheVariants as error
use Rattle.cordyceps_stack.specs.History.{Event, Load, Push, Taken, held, Legal, actor, SomeChange}

-- what a contract sees of a party
abbrev pub PartyOf : Type 0 → Type 0
PartyOf E = Standing (Event Name E)

module _ {E : Type 0} where
  -- what was seen ends with the push of e, and First holds exactly where nothing was held just before
  pub record EndsPushed (e : E) (First : Type 0) (n : Name) (seen : List (Bool × Event Name E)) : Type 0 where
    pub before : List (Bool × Event Name E)
    pub is : seen ≡ before ++ (true, Push n e) ∷ []
    pub first : First ↔ (held (plain before) ≡ [])

  -- the events of a push of all these elements at one step: the last one first
  abbrev pub pushes_of : Name → List E → List (Event Name E)
  pushes_of n es = map (Push n) (reverse es)

  -- what was seen ends with the pushes of all es, and First holds exactly where nothing was held just before them
  pub record EndsPushedAll (es : List E) (First : Type 0) (n : Name) (seen : List (Bool × Event Name E)) : Type 0 where
    pub before : List (Bool × Event Name E)
    pub is : seen ≡ before ++ map (λ v. (true, v)) (pushes_of n es)
    pub first : First ↔ (held (plain before) ≡ [])

  -- what was seen ends with the party's load, and None holds exactly where nothing is held at it
  pub record EndsLooked (None : Type 0) (n : Name) (seen : List (Bool × Event Name E)) : Type 0 where
    pub before : List (Bool × Event Name E)
    pub is : seen ≡ before ++ (true, Load n) ∷ []
    pub none : None ↔ (held (plain before) ≡ [])

  -- the party's last event is a load, after which another pushed, or took what was held
  pub record IsOvertaken (seen : List (Bool × Event Name E)) : Type 0 where
    pub before : List (Bool × Event Name E)
    pub load : Name
    pub later : List (Bool × Event Name E)
    pub is : seen ≡ before ++ (true, Load load) ∷ later
    pub others : own later ≡ []
    pub changed : SomeChange (plain later)

  -- the party has seen more, with exactly these events of its own; those of others carry no name of its share
  abbrev pub Adds : PartyOf E → List (Event Name E) → PartyOf E → Type 0
  Adds u es w = parties.Adds actor (λ h. Legal h) u es w

  -- it pushed e at its n-th try, which took a room, and `was_empty` tells whether nothing was held before
  abbrev pub PushesAt : ℕ → E → Bool → PartyOf E → PartyOf E → Type 0
  PushesAt n e was_empty u w =
      Adds u (replicate n (Load (name_of u)) ++ Push (name_of u) e ∷ []) w
      × EndsPushed e (IsTrue was_empty) (name_of u) w.seen × (u.rooms ≡ suc w.rooms)

  -- it pushed all es at its n-th try, which took a room each. The last was pushed first, so they are held in their
  -- order above what was held before, and `was_empty` tells whether that was nothing
  abbrev pub PushesAllAt : ℕ → List E → Bool → PartyOf E → PartyOf E → Type 0
  PushesAllAt n es was_empty u w =
      Adds u (replicate n (Load (name_of u)) ++ pushes_of (name_of u) es) w
      × EndsPushedAll es (IsTrue was_empty) (name_of u) w.seen × (u.rooms ≡ length es + w.rooms)

  -- it tried to push, and another came between
  abbrev pub Misses : PartyOf E → PartyOf E → Type 0
  Misses u w = Adds u (Load (name_of u) ∷ []) w × IsOvertaken w.seen × (w.rooms ≡ u.rooms)

  -- it took all that was held, and its rooms
  abbrev pub Takes : List E → PartyOf E → PartyOf E → Type 0
  Takes batch u w = Adds u (Taken (name_of u) batch ∷ []) w × (w.rooms ≡ u.rooms + length batch)

  -- it took n rooms of the pool
  abbrev pub Refills : ℕ → PartyOf E → PartyOf E → Type 0
  Refills n u w = Adds u [] w × (w.rooms ≡ u.rooms + n)

  -- it gave all its rooms to the pool, with those that were there; or others gave rooms back each time that it tried, and
  -- it has no fewer than before
  abbrev pub GivesAllBack : Bool → PartyOf E → PartyOf E → Type 0
  GivesAllBack true u w = Adds u [] w × (w.rooms ≡ 0)
  GivesAllBack false u w = Adds u [] w × (u.rooms ≤ w.rooms)

  -- each room is the party's, or has one of the elements that its history holds
  abbrev pub HasAllRooms : PartyOf E → Type 0
  HasAllRooms w = w.rooms + length (held (plain w.seen)) ≡ w.table.slots

  -- some room is neither the party's nor has one of these elements: it is in the pool, or another party's
  abbrev pub LacksRooms : PartyOf E → Type 0
  LacksRooms w = w.rooms + length (held (plain w.seen)) < w.table.slots

  -- it pushed e at one try, which took a room, and `was_empty` tells whether nothing was held before; if it had no
  -- room, it took some of the pool before
  pub record PushesRefilled (e : E) (was_empty : Bool) (u w : PartyOf E) : Type 0 where
    pub adds : Adds u (Load (name_of u) ∷ Push (name_of u) e ∷ []) w
    pub ends : EndsPushed e (IsTrue was_empty) (name_of u) w.seen
    pub taken : ℕ
    pub rooms : u.rooms + taken ≡ suc w.rooms
    pub untouched : 0 < u.rooms → taken ≡ 0

  -- it tried once to push, and another came between; it has a room: if it had none, it took some of the pool
  -- before
  pub record MissesRefilled (u w : PartyOf E) : Type 0 where
    pub adds : Adds u (Load (name_of u) ∷ []) w
    pub overtaken : IsOvertaken w.seen
    pub taken : ℕ
    pub rooms : w.rooms ≡ u.rooms + taken
    pub some : 0 < w.rooms
    pub untouched : 0 < u.rooms → taken ≡ 0

  -- it had no room, and there was none in the pool
  abbrev pub FindsFull : PartyOf E → PartyOf E → Type 0
  FindsFull u w = Refills 0 u w × (u.rooms ≡ 0)

  -- the handle that an error has
  abbrev pub handle_of : TryPushError E → E
  handle_of (error.Full e) = e
  handle_of (error.Contended e) = e

  -- it did not push e, for this reason
  abbrev pub FailsToPush : E → TryPushError E → PartyOf E → PartyOf E → Type 0
  FailsToPush e (error.Full back) u w = (back ≡ e) × FindsFull u w
  FailsToPush e (error.Contended back) u w = (back ≡ e) × MissesRefilled u w

  -- the error of a party that is alone: each room is the party's, or has an element
  abbrev pub IsCertainlyFull : TryPushError E → PartyOf E → Type 0
  IsCertainlyFull (error.Full back) w = HasAllRooms w
  IsCertainlyFull (error.Contended back) w = ⊥

  -- it looked, and `was_empty` tells whether nothing was held
  abbrev pub Looks : Bool → PartyOf E → PartyOf E → Type 0
  Looks was_empty u w =
      Adds u (Load (name_of u) ∷ []) w
      × EndsLooked (IsTrue was_empty) (name_of u) w.seen × (w.rooms ≡ u.rooms)
