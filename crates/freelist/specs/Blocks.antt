-- The blocks of a free list, and what its calls do to them.
use Rattle.std.specs.Prelude.{◌≡◌, List, [], ◌∷◌, ◌++◌, map, reverse, Option, Some, None}
use Rattle.cordyceps_base.specs.Element.{Element}
use Rattle.cordyceps_shared.specs.Shares.{Name}
use Rattle.cordyceps_stack.specs.History.{Event}
use Rattle.cordyceps_stack.specs.Shared.Calls.{PartyOf, Takes}
use Rattle.cordyceps_stack.specs.Shared.Receipts.{Learns}

-- what a contract sees of the local part: its blocks, the last put back first, and its party
pub record LocalOf (T H : Type 0) : Type 0 where
  pub blocks : List (Element T)
  pub party : PartyOf H

module _ {T H : Type 0} (element : H → Element T) where
  -- the first of some blocks came out, and these are left
  abbrev pub GivesFirst : List (Element T) → Option H → List (Element T) → Type 0
  GivesFirst blocks None left = (blocks ≡ []) × (left ≡ [])
  GivesFirst blocks (Some h) left = blocks ≡ element h ∷ left

  -- the first block came out, where there was none the first of all that was shared, which the party took at once
  abbrev pub GetsFrom : List (Element T) → PartyOf H → Option H → LocalOf T H → Type 0
  GetsFrom [] party result after =
      (batch : List H) × Takes batch party after.party × GivesFirst (map element batch) result after.blocks
  GetsFrom (b ∷ bs) party result after = (after.party ≡ party) × GivesFirst (b ∷ bs) result after.blocks

  -- the party took all that was shared at once, and it came before the blocks, what was put back first at the front
  abbrev pub TakesShared : List (Element T) → PartyOf H → LocalOf T H → Type 0
  TakesShared blocks party after =
      (batch : List H) × Takes batch party after.party × (after.blocks ≡ reverse (map element batch) ++ blocks)

  -- the party learned a history, and then a block came out, or none
  abbrev pub GetsTold : List (Event Name H) → LocalOf T H → Option H → LocalOf T H → Type 0
  GetsTold told before result after =
      (learned : PartyOf H) × Learns told before.party learned × GetsFrom before.blocks learned result after
