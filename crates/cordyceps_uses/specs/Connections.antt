-- Connections, each with its spot, the one that was idle longest first.
use Rattle.std.specs.Prelude.{◌≡◌, ℕ, ◌<◌, ◌≤◌, ◌∷◌, length, Option, MatchOption}
use Rattle.std.specs.List.{AllByRecursion}
use denote.RawPtr.{Ptr}
use Rattle.cordyceps.specs.Elements.Element.{Element}
use Rattle.cordyceps.specs.Elements.Nodes.{Nodes, spots}
use Rattle.cordyceps.specs.Orders.ByKey.{AscendsBy}
use Rattle.cordyceps.specs.Spots.BySpot.{IsTaken}
use Rattle.cordyceps.specs.Spots.Spots.{AreDistinct}
use Rattle.cordyceps_uses.specs.declared.connections.Connection.{Connection}

-- what a contract sees of a table
pub record OpenConnections (P : Type 0) : Type 0 where
  pub nodes : Nodes (Connection P)
  pub capacity : ℕ

module _ {P : Type 0} where
  -- when the connection of a node was last active
  abbrev pub active : Ptr × Element (Connection P) → ℕ
  active n = n.1.value.last_active

  -- what a table keeps to: its connections are in order, each at a spot of its own, and no more than it has room for
  pub record IsKept (c : Nodes (Connection P)) (capacity : ℕ) : Type 0 where
    pub in_order : AscendsBy active c
    pub distinct : AreDistinct (spots c)
    pub fits : length c ≤ capacity
    pub some : 0 < capacity

  -- all were active since
  abbrev pub AllActiveSince : ℕ → Nodes (Connection P) → Type 0
  AllActiveSince since c = AllByRecursion (λ n. since ≤ active n) c

  -- the connection out, which came first, was taken out of c: all that are left were active since it was
  pub record TakesIdlest (c : Nodes (Connection P)) (out : Element (Connection P)) (left : Nodes (Connection P)) : Type 0 where
    pub spot : Ptr
    pub first : c ≡ (spot, out) ∷ left
    pub idlest : AllActiveSince out.value.last_active left

  -- a connection was put in at a spot, and out went for it: none where there was room, and otherwise the idlest
  pub record Evicts (was is : OpenConnections P) (out : Option (Element (Connection P))) (spot : Ptr)
      (new : Element (Connection P)) : Type 0 where
    pub left : Nodes (Connection P)
    pub evicted : MatchOption out
        ((left ≡ was.nodes) × (length was.nodes < was.capacity))
        (λ e. TakesIdlest was.nodes e left × (length was.nodes ≡ was.capacity))
    pub opened : IsTaken is.nodes spot new left
    pub capacity : is.capacity ≡ was.capacity

  -- the connection at a spot was active at this time; nothing else changed
  pub record Renews (c : Nodes (Connection P)) (spot : Ptr) (now : ℕ) (d : Nodes (Connection P)) : Type 0 where
    pub was : Element (Connection P)
    pub others : Nodes (Connection P)
    pub found : IsTaken c spot was others
    pub renewed :
        IsTaken d spot (record { id = was.id; value = record { last_active = now; peer = was.value.peer } }) others
