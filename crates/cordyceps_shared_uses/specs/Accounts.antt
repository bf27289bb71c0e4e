-- What places and threads got and gave of what goes between them, as the rule of their accounts sees it.
use Rattle.std.specs.Prelude.{◌≡◌, ℕ, ◌+◌, ◌-◌, List, [], ◌∷◌, ◌++◌}
use mathlib.Core.Option.{some}
use lib.ListN.{get_elem?}
use Rattle.atomic_table.specs.Table.{State, Step, Me}
use Rattle.cordyceps.specs.Parties.Counts.{tally, Same}
use Rattle.cordyceps.specs.Parties.Seated.{TableId}
use Rattle.cordyceps_shared_uses.specs.declared.scheduler.name.Name.{Name}

-- which accounts it is one of, how many of their parts it has, and what it got and gave, the last first
pub record Entries : Type 0 where
  pub table : TableId
  pub parts : ℕ
  pub got : List Name
  pub gave : List Name

-- accounts with so many parts
pub record Books : Type 0 where
  pub table : TableId
  pub parts : ℕ

-- what an account has
pub record Page : Type 0 where
  pub parts : ℕ
  pub got : List Name
  pub gave : List Name

-- what a seat knows: its account, and another that is with it between two steps
pub record View : Type 0 where
  pub mine : Page
  pub other : Page

abbrev pub blank : ℕ → Page
blank n = record { parts = n; got = []; gave = [] }

abbrev pub alone : Page → View
alone p = record { mine = p; other = blank 0 }

abbrev pub entries : TableId → View → Entries
entries z v = record { table = z; parts = v.mine.parts; got = v.mine.got; gave = v.mine.gave }

-- ---- what holds of all accounts: they have so many parts in all, what was got was given, and none has an entry
-- without a part
abbrev pub count : (Page → ℕ) → View → ℕ
count g v = g v.mine + g v.other

abbrev pub IsBacked : Page → Type 0
IsBacked p = p.parts ≡ 0 → (p.got ≡ []) × (p.gave ≡ [])

abbrev pub AreBacked : View → Type 0
AreBacked v = IsBacked v.mine × IsBacked v.other

pub record AreEven {S : Type 0} (n : ℕ) (s : State S View) : Type 0 where
  pub parts : tally (count (λ p. p.parts)) s.views ≡ n
  pub even : (f : Name → ℕ) → tally (count (λ p. tally f p.got)) s.views ≡ tally (count (λ p. tally f p.gave)) s.views
  pub backed : (i : ℕ) (v : View) → get_elem? s.views i ≡ some v → AreBacked v

-- ---- steps
-- an account gives n of its parts up, and another has them
abbrev pub keeping : ℕ → View → View
keeping n v = alone (record v.mine { parts = v.mine.parts - n })

abbrev pub cut : ℕ → View → View
cut n v = alone (blank n)

abbrev pub same_view : View → View
same_view v = v

-- two accounts meet
abbrev pub meeting : View → View → View
meeting v w = record { mine = v.mine; other = w.mine }

-- and part again, after the first gave to the second
abbrev pub giving : Name → View → View
giving x v = alone (record v.mine { gave = x ∷ v.mine.gave })

abbrev pub getting : Name → View → View
getting x v = alone (record v.other { got = x ∷ v.other.got })

-- two become one
abbrev pub both : Page → Page → Page
both p q = record { parts = p.parts + q.parts; got = p.got ++ q.got; gave = p.gave ++ q.gave }

abbrev pub merged : View → View → View
merged v w = alone (both v.mine w.mine)

-- an account with all n parts got what it gave
abbrev pub told : {S : Type 0} → ℕ → Step S → Me S View → ℕ → Me S View → Type 0
told n step m word w = (w ≡ m) × (m.0.mine.parts ≡ n → Same m.0.mine.got m.0.mine.gave)

-- an account between two calls
pub record IsAtRest {S : Type 0} (m : Me S View) : Type 0 where
  pub slots : m.1 ≡ []
  pub other : m.0.other ≡ blank 0
  pub backed : IsBacked m.0.mine

-- ---- what calls do
abbrev pub opened : TableId → ℕ → Entries
opened z n = record { table = z; parts = n; got = []; gave = [] }

abbrev pub joined : Entries → Entries → Entries
joined a b = record { table = a.table; parts = a.parts + b.parts; got = a.got ++ b.got; gave = a.gave ++ b.gave }

-- the account is one of these, and has one part of them
abbrev pub IsOpen : TableId → Entries → Type 0
IsOpen z a = (a.table ≡ z) × (a.parts ≡ 1)

abbrev pub after_getting : Name → Entries → Entries
after_getting x a = record a { got = x ∷ a.got }

abbrev pub after_giving : Name → Entries → Entries
after_giving x a = record a { gave = x ∷ a.gave }

-- from a to b an account got these and gave those
pub record Moved (gs vs : List Name) (a b : Entries) : Type 0 where
  pub table : b.table ≡ a.table
  pub parts : b.parts ≡ a.parts
  pub got : (f : Name → ℕ) → tally f b.got ≡ tally f a.got + tally f gs
  pub gave : (f : Name → ℕ) → tally f b.gave ≡ tally f a.gave + tally f vs

-- what it got is what it gave, and these
abbrev pub Holds : Entries → List Name → Type 0
Holds a xs = (f : Name → ℕ) → tally f a.got ≡ tally f a.gave + tally f xs
