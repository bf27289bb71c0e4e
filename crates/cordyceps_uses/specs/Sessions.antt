-- Tables of sessions.
use Rattle.std.specs.Prelude.{◌≡◌, ◌≤◌, ℕ, Option, nat_eq}
use Rattle.std.specs.Ordering.{nat_cmp}
use denote.RawPtr.{Ptr}
use Rattle.cordyceps.specs.Elements.Element.{Element}
use Rattle.cordyceps.specs.Orders.ByKey.{by_key}
use Rattle.cordyceps.specs.Spots.BySpot.{HoldsAt, IsTaken}
use Rattle.cordyceps.specs.Spots.MapLends.{with_value_at}
use Rattle.cordyceps.specs.Spots.StableMap.{Mapped, IsFound, IsIndexOf, IsInserted}
use Rattle.cordyceps_uses.specs.declared.sessions.Session.{Session}

-- what a contract sees of a table: the sessions by their numbers
abbrev pub Table : Type 0
Table = Mapped (ℕ × Session)

-- each list has every session, list 1 by the time of last use, and list 2 by deadline
pub record IsTable (v : Table) : Type 0 where
  pub by_use : IsIndexOf (by_key nat_cmp (λ s. s.seen)) 1 v
  pub by_deadline : IsIndexOf (by_key nat_cmp (λ s. s.deadline)) 2 v

-- no session's number is less than k
abbrev pub NoneBelow : (Session → ℕ) → ℕ → Table → Type 0
NoneBelow number k v = (p : Ptr) (x : ℕ × Session) → HoldsAt v.nodes p x → k ≤ number x.1

-- the session n left the table
abbrev pub Leaves : Table → Element (ℕ × Session) → Table → Type 0
Leaves v n w = (p : Ptr) × IsTaken v.nodes p n w.nodes

-- the session n came into the table, in the place of the one that had its number, if there was one
abbrev pub IsOpened : Table → Element (ℕ × Session) → Option (Element (ℕ × Session)) → Table → Type 0
IsOpened v n old w = (p : Ptr) × (u : Table) × IsInserted nat_eq 3 v n p old u × (w.nodes ≡ u.nodes)

-- the session with a number was used at a time, and has a new deadline; nothing else changed
pub record IsTouched (v : Table) (id now deadline : ℕ) (w : Table) : Type 0 where
  pub spot : Ptr
  pub session : Session
  pub found : IsFound nat_eq v.nodes id spot
  pub held : (key : ℕ) × HoldsAt v.nodes spot (key, session)
  pub written : w.nodes ≡ (with_value_at v spot (record session { seen = now; deadline = deadline })).nodes
