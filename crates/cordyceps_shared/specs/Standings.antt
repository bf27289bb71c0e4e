-- What a contract tells of a party of a shared collection. X is the type of the collection's events.
use Rattle.std.specs.Prelude.{◌≡◌, ℕ, ◌+◌, ◌-◌, List, [], Bool, true, false}
use Rattle.atomic_table.specs.Seated.{TableId}
use Rattle.cordyceps_shared.specs.Histories.{plain, AllOwn, AreDisjoint}
use Rattle.cordyceps_shared.specs.Knowing.{Known, Grown, without_marks, merge_marks, IsPrefixOf}
use Rattle.cordyceps_shared.specs.Shares.{Name, whole, first_name, keeps_half, gives_half, join_shares, NamesDisjoint}
use Rattle.cordyceps_shared.specs.Shares.{IsShare}

-- which collection the party is of; the history that it has seen, with a mark at its own events; its share; and how
-- many rooms it has
pub record Standing (X : Type 0) : Type 0 where
  pub table : TableId
  pub seen : List (Bool × X)
  pub share : List Name
  pub rooms : ℕ

module _ {X : Type 0} where
  abbrev pub known_of : Standing X → Known X
  known_of u = record { seen = u.seen; had = []; told = []; share = u.share }

  -- the name that the party's new events carry
  abbrev pub name_of : Standing X → Name
  name_of u = first_name u.share

  -- the party of a new collection
  abbrev pub new_party : TableId → ℕ → Standing X
  new_party table rooms = record { table = table; seen = []; share = whole; rooms = rooms }

  -- the party has seen more, with exactly these events of its own; those of others carry no name of its share, and a
  -- whole party saw none. What it has seen is legal. Collection and share are the same
  abbrev pub Adds : (actor : X → Name) (Legal : List X → Type 0) → Standing X → List X → Standing X → Type 0
  Adds actor Legal u es w = Grown actor Legal (known_of u) es (known_of w) × (w.table ≡ u.table)

  -- the party after it gave up n rooms, and the party that has them
  abbrev pub keeping : ℕ → Standing X → Standing X
  keeping n u = record u { share = keeps_half u.share; rooms = u.rooms - n }

  abbrev pub giving : ℕ → Standing X → Standing X
  giving n u = record { table = u.table; seen = without_marks u.seen; share = gives_half u.share; rooms = n }

  -- it gave n rooms to the pool, or others' rooms were there, and it is as before
  abbrev pub GivesBack : ℕ → Bool → Standing X → Standing X → Type 0
  GivesBack n true u w = w ≡ record u { rooms = u.rooms - n }
  GivesBack n false u w = w ≡ u

  -- what every party knows: what it has seen is legal, a whole party has seen no event of another, and its names are a
  -- share
  pub record Knows (Legal : List X → Type 0) (u : Standing X) : Type 0 where
    pub legal : Legal (plain u.seen)
    pub alone : u.share ≡ whole → AllOwn u.seen
    pub share : IsShare u.share

  -- the party u became w when it took in the party o. It has seen the longer of what the two had seen, of which the
  -- shorter is a prefix; no event is marked by both, and the own events are those of both; their shares had no name in
  -- common
  pub record Absorbs (Legal : List X → Type 0) (u o w : Standing X) : Type 0 where
    pub table : w.table ≡ u.table
    pub seen : w.seen ≡ merge_marks u.seen o.seen
    pub apart : AreDisjoint u.seen o.seen
    pub names : NamesDisjoint u.share o.share
    pub mine : IsPrefixOf (plain u.seen) (plain w.seen)
    pub theirs : IsPrefixOf (plain o.seen) (plain w.seen)
    pub legal : Legal (plain w.seen)
    pub alone : w.share ≡ whole → AllOwn w.seen
    pub share : w.share ≡ join_shares u.share o.share
    pub rooms : w.rooms ≡ u.rooms + o.rooms
