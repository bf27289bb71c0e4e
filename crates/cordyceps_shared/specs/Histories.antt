-- The history of a shared collection, the oldest event first. In the collection's rule each event has the
-- number of the seat whose party it is of; in what a party has seen (the observed prefix), a mark that says whether it
-- is the party's own.
use Rattle.std.specs.Prelude.{◌≡◌, ◌≢◌, ℕ, List, [], ◌∷◌, map, Bool, true, false, ◌&&◌, cond, nat_eq}

module _ {X : Type 0} where
  abbrev pub events : List (ℕ × X) → List X
  events h = map (λ x. x.1) h

  abbrev pub mark : ℕ → ℕ × X → Bool × X
  mark j x = (nat_eq x.0 j, x.1)

  -- the history as the party of seat j sees it
  abbrev pub with_marks : ℕ → List (ℕ × X) → List (Bool × X)
  with_marks j h = map (mark j) h

  -- what was seen, without the marks
  abbrev pub plain : List (Bool × X) → List X
  plain [] = []
  plain (x ∷ xs) = x.1 ∷ plain xs

  -- the party's own events
  abbrev pub own : List (Bool × X) → List X
  own [] = []
  own (x ∷ xs) = cond x.0 (x.1 ∷ own xs) (own xs)

  -- the events of others
  abbrev pub others : List (Bool × X) → List X
  others [] = []
  others (x ∷ xs) = cond x.0 (others xs) (x.1 ∷ others xs)

  -- every event is the party's own
  abbrev pub AllOwn : List (Bool × X) → Type 0
  AllOwn [] = Unit {0}
  AllOwn (x ∷ xs) = (x.0 ≡ true) × AllOwn xs

  -- at no place do both have a mark
  abbrev pub AreDisjoint : List (Bool × X) → List (Bool × X) → Type 0
  AreDisjoint [] ys = Unit {0}
  AreDisjoint (x ∷ xs) [] = Unit {0}
  AreDisjoint (x ∷ xs) (y ∷ ys) = ((x.0 && y.0) ≡ false) × AreDisjoint xs ys

  -- no event is of seat j
  abbrev pub NoneOf : ℕ → List (ℕ × X) → Type 0
  NoneOf j [] = Unit {0}
  NoneOf j (x ∷ xs) = (x.0 ≢ j) × NoneOf j xs

  -- these events, of seat j
  abbrev pub of_seat : ℕ → List X → List (ℕ × X)
  of_seat j [] = []
  of_seat j (x ∷ xs) = (j, x) ∷ of_seat j xs
