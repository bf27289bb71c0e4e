-- The history of a transfer stack: what its parties, of any type P of names, did to it, the oldest event first.
use Rattle.std.specs.Prelude.{◌≡◌, ◌≢◌, List, [], ◌∷◌, ◌++◌, reverse, ◌⊎◌}

pub data Event (P E : Type 0) : Type 0 where
  -- a party read `head`, to push or to look
  Load : P → Event P E
  -- a party pushed an element
  Push : P → E → Event P E
  -- a party took all that was held, newest first
  Taken : P → List E → Event P E

module _ {P E : Type 0} where
  -- the party of an event
  abbrev pub actor : Event P E → P
  actor (Load p) = p
  actor (Push p e) = p
  actor (Taken p batch) = p

  -- what is held after an event
  abbrev pub held_after : List E → Event P E → List E
  held_after es (Load p) = es
  held_after es (Push p e) = es ++ e ∷ []
  held_after es (Taken p batch) = []

  abbrev pub held_from : List E → List (Event P E) → List E
  held_from es [] = es
  held_from es (v ∷ h) = held_from (held_after es v) h

  -- what is held: the elements pushed after the last taking, oldest first
  abbrev pub held : List (Event P E) → List E
  held h = held_from [] h

  -- at each taking the batch is the reverse of what is held before it
  abbrev pub Legal : List (Event P E) → Type 0
  Legal h =
      (before after : List (Event P E)) (p : P) (batch : List E) → h ≡ before ++ Taken p batch ∷ after →
      batch ≡ reverse (held before)

  -- the elements pushed
  abbrev pub pushes : List (Event P E) → List E
  pushes [] = []
  pushes (Load p ∷ h) = pushes h
  pushes (Push p e ∷ h) = e ∷ pushes h
  pushes (Taken p batch ∷ h) = pushes h

  -- the elements taken: the batches one after another, each oldest first
  abbrev pub taken_elements : List (Event P E) → List E
  taken_elements [] = []
  taken_elements (Load p ∷ h) = taken_elements h
  taken_elements (Push p e ∷ h) = taken_elements h
  taken_elements (Taken p batch ∷ h) = reverse batch ++ taken_elements h

  -- no event is a load of p
  abbrev pub NoLoad : P → List (Event P E) → Type 0
  NoLoad p [] = Unit {0}
  NoLoad p (Load q ∷ h) = (q ≢ p) × NoLoad p h
  NoLoad p (Push q e ∷ h) = NoLoad p h
  NoLoad p (Taken q batch ∷ h) = NoLoad p h

  -- no event is a taking by p
  abbrev pub NoTaken : P → List (Event P E) → Type 0
  NoTaken p [] = Unit {0}
  NoTaken p (Load q ∷ h) = NoTaken p h
  NoTaken p (Push q e ∷ h) = NoTaken p h
  NoTaken p (Taken q batch ∷ h) = (q ≢ p) × NoTaken p h

  -- a push, or a taking of something, by another than p
  abbrev pub IsByAnother : P → Event P E → Type 0
  IsByAnother p (Load q) = ⊥
  IsByAnother p (Push q e) = q ≢ p
  IsByAnother p (Taken q batch) = (q ≢ p) × (batch ≢ [])

  abbrev pub SomeByAnother : P → List (Event P E) → Type 0
  SomeByAnother p [] = ⊥
  SomeByAnother p (v ∷ h) = IsByAnother p v ⊎ SomeByAnother p h

  -- p has a load, and these events follow its last one
  pub record LastLoad (p : P) (h since : List (Event P E)) : Type 0 where
    pub before : List (Event P E)
    pub splits : h ≡ before ++ Load p ∷ since
    pub last : NoLoad p since

  -- p has a taking, and this is its last batch
  pub record LastBatch (p : P) (h : List (Event P E)) (batch : List E) : Type 0 where
    pub before : List (Event P E)
    pub since : List (Event P E)
    pub splits : h ≡ before ++ Taken p batch ∷ since
    pub last : NoTaken p since

  -- another's push, or its taking of something, follows the last load of p
  pub record Overtaken (p : P) (h : List (Event P E)) : Type 0 where
    pub since : List (Event P E)
    pub loaded : LastLoad p h since
    pub moved : SomeByAnother p since

  -- a push, or a taking of something
  abbrev pub IsChange : Event P E → Type 0
  IsChange (Load p) = ⊥
  IsChange (Push p e) = Unit {0}
  IsChange (Taken p batch) = batch ≢ []

  abbrev pub SomeChange : List (Event P E) → Type 0
  SomeChange [] = ⊥
  SomeChange (v ∷ h) = IsChange v ⊎ SomeChange h
