-- What a party of a shared collection knows of its history, and what that has to do with the history. X is the type of
-- events, and V that of what the seats of the collection's table know.
use Rattle.std.specs.Prelude.{◌≡◌, ℕ, ◌<◌, ◌≤◌, List, [], ◌∷◌, ◌++◌, length, Bool, ◌||◌, false}
use mathlib.Core.Option.{some}
use lib.ListN.{get_elem?}
use Rattle.cordyceps_shared.specs.Counts.{tally}
use Rattle.cordyceps_shared.specs.Histories.{events, with_marks, plain, own, others, NoneOf, AllOwn, AreDisjoint}
use Rattle.cordyceps_shared.specs.Shares.{Name, covers, whole, keeps_half, gives_half, join_shares, Clear}

-- the history so far, with a mark at its own events; what it had seen itself when it last absorbed a party, and what
-- that party told it; and its share
pub record Known (X : Type 0) : Type 0 where
  pub seen : List (Bool × X)
  pub had : List (Bool × X)
  pub told : List (Bool × X)
  pub share : List Name

module _ {X : Type 0} where
  -- the party of a new collection
  abbrev pub newcomer : Known X
  newcomer = record { seen = []; had = []; told = []; share = whole }

  -- what the party of seat j knows that has seen all
  abbrev pub all_seen : ℕ → List (ℕ × X) → List Name → Known X
  all_seen j h share = record { seen = with_marks j h; had = []; told = []; share = share }

  -- no event carries a name of the share, a prefix of such a name, or a name with such a prefix
  abbrev pub Foreign : (X → Name) → List Name → List X → Type 0
  Foreign actor share [] = Unit {0}
  Foreign actor share (x ∷ xs) = Clear (actor x) share × Foreign actor share xs

  -- each event carries this name
  abbrev pub Under : (X → Name) → Name → List X → Type 0
  Under actor n [] = Unit {0}
  Under actor n (x ∷ xs) = (actor x ≡ n) × Under actor n xs

  -- what it has seen is a prefix of the history, with all events of its own and all that carry names of its share;
  -- and so is what it was told, and no event is marked both there and in what it had seen itself
  pub record Agrees (actor : X → Name) (history : List (ℕ × X)) (j : ℕ) (k : Known X) : Type 0 where
    pub before : List (ℕ × X)
    pub later : List (ℕ × X)
    pub is : history ≡ before ++ later
    pub seen : k.seen ≡ with_marks j before
    pub none : NoneOf j later
    pub foreign : Foreign actor k.share (events later)
    pub told : (rest : List X) × (events history ≡ plain k.told ++ rest)
    pub apart : AreDisjoint k.had k.told

  -- the seats of the events are below n
  abbrev pub Below : ℕ → List (ℕ × X) → Type 0
  Below n [] = Unit {0}
  Below n (x ∷ xs) = (x.0 < n) × Below n xs

  -- the events are of seats with a share, and no long name is covered twice
  pub record SharesDisjoint {V : Type 0} (knows : V → Known X) (views : List V) (history : List (ℕ × X)) : Type 0 where
    pub below : Below (length views) history
    pub quiet : (j : ℕ) (v : V) → get_elem? views j ≡ some v → (knows v).share ≡ [] → NoneOf j history
    pub long : ℕ
    pub apart : (x : Name) → long ≤ length x → tally (λ v. covers x (knows v).share) views ≤ 1

  -- each seat's party knows what fits the history
  abbrev pub AllAgree : {V : Type 0} → (X → Name) → (V → Known X) → List V → List (ℕ × X) → Type 0
  AllAgree actor knows views history = (j : ℕ) (v : _) → get_elem? views j ≡ some v → Agrees actor history j (knows v)

  -- the party has seen more, in which its own events are these, and others' carry no name of its share; it is legal;
  -- the share is the same; and a whole party saw no event of another
  pub record Grown (actor : X → Name) (Legal : List X → Type 0) (v : Known X) (es : List X) (w : Known X) : Type 0 where
    pub rest : List (Bool × X)
    pub is : w.seen ≡ v.seen ++ rest
    pub adds : own rest ≡ es
    pub foreign : Foreign actor v.share (others rest)
    pub legal : Legal (plain w.seen)
    pub share : w.share ≡ v.share
    pub alone : w.share ≡ whole → AllOwn w.seen

  -- ---- splitting and joining
  -- the same events, none of which is the party's own
  abbrev pub without_marks : List (Bool × X) → List (Bool × X)
  without_marks [] = []
  without_marks (x ∷ xs) = (false, x.1) ∷ without_marks xs

  -- the longer of two histories, one of which is a prefix of the other, with the marks of both
  abbrev pub merge_marks : List (Bool × X) → List (Bool × X) → List (Bool × X)
  merge_marks [] ys = ys
  merge_marks (x ∷ xs) [] = x ∷ xs
  merge_marks (x ∷ xs) (y ∷ ys) = (x.0 || y.0, x.1) ∷ merge_marks xs ys

  -- what a party knows that gave up half of its first name, and what the new one knows
  abbrev pub known_keeping : Known X → Known X
  known_keeping k = record k { share = keeps_half k.share }

  abbrev pub known_giving : Known X → Known X
  known_giving k = record { seen = without_marks k.seen; had = []; told = []; share = gives_half k.share }

  -- what a party knows that took another in, and what is left of the other
  abbrev pub known_absorbing : Known X → Known X → Known X
  known_absorbing k l =
      record { seen = merge_marks k.seen l.seen; had = k.seen; told = l.seen; share = join_shares k.share l.share }

  abbrev pub known_absorbed : Known X
  known_absorbed = record { seen = []; had = []; told = []; share = [] }

  -- what a seat without a share knows that tells what a party has seen, and what a party knows that was told it and has
  -- yet to look
  abbrev pub known_telling : Known X → Known X
  known_telling k = record { seen = without_marks k.seen; had = []; told = []; share = [] }

  abbrev pub known_hearing : Known X → Known X → Known X
  known_hearing k l = record k { had = []; told = l.seen }

  -- one history is a prefix of another
  abbrev pub IsPrefixOf : List X → List X → Type 0
  IsPrefixOf xs ys = (rest : List X) × (ys ≡ xs ++ rest)

  -- what a party knows: a legal history, of which what it was told is a prefix, no event that it and the party it
  -- absorbed both had marked, and of a whole party no event of another
  pub record IsKnown (Legal : List X → Type 0) (k : Known X) : Type 0 where
    pub legal : Legal (plain k.seen)
    pub told : IsPrefixOf (plain k.told) (plain k.seen)
    pub apart : AreDisjoint k.had k.told
    pub alone : k.share ≡ whole → AllOwn k.seen
    pub long : ℕ
    pub once : (x : Name) → long ≤ length x → covers x k.share ≤ 1
