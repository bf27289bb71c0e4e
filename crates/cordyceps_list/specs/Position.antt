-- A place in a sequence.
use Rattle.std.specs.Prelude.{◌≡◌, ℕ, ◌+◌, ◌<◌, ◌≤◌, length, slice_get, Option, Some, MatchOption}
use Rattle.std.specs.Borrow.{Bor}
use Rattle.cordyceps_base.specs.declared.boxes.Address.{Address}
use Rattle.cordyceps_base.specs.Element.{Elements, values}
use Rattle.cordyceps_base.specs.Nodes.{Nodes, IsAt}

-- a sequence, and a place in it, its length being the null place
pub record Position (X : Type 0) : Type 0 where
  pub elements : Elements X
  pub place : ℕ

-- a call of a cursor's `next` at s returns r and leaves t
abbrev pub GivesAndMoves : {X : Type 0} → Position X → Option (Bor X) → Position X → Type 0
GivesAndMoves s r t =
    MatchOption r ((s.place ≡ length s.elements) × (t ≡ s)) (λ x. (slice_get (values s.elements) s.place ≡ Some x.now)
    × (t ≡ record s { place = s.place + 1 }))

-- a cursor is at this index of the nodes, the length being the null place, and where there is a node it is at p
pub record StandsAt {X : Type 0} (c : Nodes X) (p : Address) (index : ℕ) : Type 0 where
  pub within : index ≤ length c
  pub on : index < length c → IsAt c index p
