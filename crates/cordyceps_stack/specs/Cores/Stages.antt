-- What holds of a core's machine and of a history where a party is at a stage.
use Rattle.std.specs.Prelude.{◌≡◌, ◌≢◌, ℕ, List, [], ◌∷◌, ◌++◌, Option, Some, None, slice_get}
use Rattle.cordyceps_stack.specs.declared.cores.stage.Attempt.{Attempt}
use Rattle.cordyceps_stack.specs.declared.cores.stage.Stage.{Stage}
use Rattle.cordyceps_stack.specs.declared.cores.stage.Stage.TheVariants.{Rest, Loaded, Set, Walking}
use Rattle.cordyceps_shared.specs.declared.room.Room.{Room}
use Rattle.cordyceps_stack.specs.History.{Event, LastLoad, LastBatch, SomeByAnother}

module _ {E : Type 0} where
  -- a room in use, with its element
  abbrev pub room_in_use : E → Option ℕ → Room E
  room_in_use e next = record { owner = None; element = Some e; next = next }

  -- the room r is none of these
  abbrev pub NotAmong : ℕ → List (ℕ × E) → Type 0
  NotAmong r [] = Unit {0}
  NotAmong r (x ∷ xs) = (r ≢ x.0) × NotAmong r xs

  -- `start` leads to the room of x, which has x's element, is with `with`, and is none of xs. Rest holds of its link
  pub record LeadsFirst (rooms : List (Room E)) (own : ℕ → Option ℕ) (with start : Option ℕ) (x : ℕ × E)
      (xs : List (ℕ × E)) (Rest : Option ℕ → Type 0) : Type 0 where
    pub next : Option ℕ
    pub start_is : start ≡ Some x.0
    pub room : slice_get rooms x.0 ≡ Some (room_in_use x.1 next)
    pub mine : own x.0 ≡ with
    pub apart : NotAmong x.0 xs
    pub rest : Rest next

  -- from `start` the links lead through these rooms, with these elements, to null, and through none of them twice;
  -- `own` says that each is with the party `with`, or with none, which is in the stack
  abbrev pub LeadsThrough : List (Room E) → (ℕ → Option ℕ) → Option ℕ → Option ℕ → List (ℕ × E) → Type 0
  LeadsThrough rooms own with start [] = start ≡ None
  LeadsThrough rooms own with start (x ∷ xs) =
      LeadsFirst rooms own with start x xs (λ next. LeadsThrough rooms own with next xs)

  -- the elements of these rooms
  abbrev pub room_elements : List (ℕ × E) → List E
  room_elements [] = []
  room_elements (x ∷ xs) = x.1 ∷ room_elements xs

  -- p's room r of a push under way, with its element
  pub record InHand (rooms : List (Room E)) (own : ℕ → Option ℕ) (p r : ℕ) : Type 0 where
    pub element : E
    pub next : Option ℕ
    pub room : slice_get rooms r ≡ Some (room_in_use element next)
    pub mine : own r ≡ Some p

  -- the party has a load, and what it read is still `head`, unless something of another came after its last load
  pub record HasRead (h : List (Event ℕ E)) (p : ℕ) (head read : Option ℕ) : Type 0 where
    pub since : List (Event ℕ E)
    pub loaded : LastLoad p h since
    pub moved : head ≢ read → SomeByAnother p since

  -- what is yet to be handed out is a suffix of the party's last batch
  pub record HasBatchLeft (h : List (Event ℕ E)) (rooms : List (Room E)) (own : ℕ → Option ℕ) (p r : ℕ) : Type 0 where
    pub rest : List (ℕ × E)
    pub links : LeadsThrough rooms own (Some p) (Some r) rest
    pub batch : List E
    pub taken : LastBatch p h batch
    pub given : List E
    pub end : given ++ room_elements rest ≡ batch

  -- the party has linked its room to what it read
  pub record HasLinked (h : List (Event ℕ E)) (head : Option ℕ) (rooms : List (Room E)) (own : ℕ → Option ℕ) (p : ℕ)
      (a : Attempt) : Type 0 where
    pub hand : InHand rooms own p a.room
    pub link : hand.next ≡ a.read
    pub read : HasRead h p head a.read

  -- what holds of a party at this stage
  abbrev pub AtStage : List (Event ℕ E) → Option ℕ → List (Room E) → (ℕ → Option ℕ) → ℕ → Stage → Type 0
  AtStage h head rooms own p Rest = Unit {0}
  AtStage h head rooms own p (Loaded a) = InHand rooms own p a.room × HasRead h p head a.read
  AtStage h head rooms own p (Set a) = HasLinked h head rooms own p a
  AtStage h head rooms own p (Walking r) = HasBatchLeft h rooms own p r
