-- The bell of a queue: whether it has been rung since it was last cleared, and who has yet to ring it.
use Rattle.std.specs.Prelude.{◌≡◌, ℕ, ◌+◌, ◌≤◌, List, [], ◌∷◌, ◌++◌, length, Bool, true, false}
use Rattle.cordyceps_queue.specs.History.{Event, Swap, Ring, Clear, came, went, rings_by}

module _ {P E : Type 0} where
  -- whether it is rung after an event, and after several, where it was rung before them or not
  abbrev pub rung_after : Bool → Event P E → Bool
  rung_after b (Ring p) = true
  rung_after b (Clear p) = false
  rung_after b _ = b

  abbrev pub rung_from : Bool → List (Event P E) → Bool
  rung_from b [] = b
  rung_from b (x ∷ h) = rung_from (rung_after b x) h

  -- whether somebody has rung it since it was last cleared
  abbrev pub has_rung : List (Event P E) → Bool
  has_rung h = rung_from false h

  abbrev pub IsQuiet : List (Event P E) → Type 0
  IsQuiet h = has_rung h ≡ false

  -- how often it was cleared
  abbrev pub clear_count : Event P E → ℕ
  clear_count (Clear p) = 1
  clear_count _ = 0

  abbrev pub clears : List (Event P E) → ℕ
  clears [] = 0
  clears (x ∷ h) = clears h + clear_count x

module _ {P E : Type 0} (same : Discrete P) where
  -- the party has put an element in, and has not rung the bell since
  pub record OwesRing (q : P) (h : List (Event P E)) : Type 0 where
    pub past : List (Event P E)
    pub element : E
    pub later : List (Event P E)
    pub is : h ≡ past ++ Swap q element ∷ later
    pub silent : rings_by same q later ≡ 0

  -- each party that put in an element that is held owes a ring
  abbrev pub HeldAreOwed : List (Event P E) → Type 0
  HeldAreOwed h =
      (past later : List (Event P E)) (q : P) (e : E) → h ≡ past ++ Swap q e ∷ later →
      length (went h) ≤ length (came past) → OwesRing q h
