-- What a receipt of a shared transfer stack tells, and what a party learns from it.
use Rattle.std.specs.Prelude.{◌≡◌, ◌≢◌, ◌<◌, List, [], ◌++◌, length, Bool}
use Rattle.atomic_table.specs.Seated.{TableId}
use Rattle.cordyceps_shared.specs.Histories.{plain, others}
use Rattle.cordyceps_shared.specs.Knowing.{IsPrefixOf}
use Rattle.cordyceps_shared.specs.Shares.{Name}
use Rattle.cordyceps_stack.specs.History.{Event, pushes, taken_elements}
use Rattle.cordyceps_stack.specs.Shared.Calls.{PartyOf, Adds}

-- what a contract sees of a receipt: its stack's table, and the history that it tells
pub record ReceiptOf (E : Type 0) : Type 0 where
  pub table : TableId
  pub told : List (Event Name E)

module _ {E : Type 0} where
  -- the party has seen more, with no event of its own, and what it has seen begins with the history h. It has as many
  -- rooms as it had
  pub record Learns (h : List (Event Name E)) (u w : PartyOf E) : Type 0 where
    pub adds : Adds u [] w
    pub told : IsPrefixOf h (plain w.seen)
    pub rooms : w.rooms ≡ u.rooms

  -- more elements were pushed by the history h than have been taken by what the party has seen
  abbrev pub TellsOfMore : List (Event Name E) → PartyOf E → Type 0
  TellsOfMore h u = length (taken_elements (plain u.seen)) < length (pushes h)

  -- all that was pushed by the history h has been taken by what the party has seen
  abbrev pub AllTaken : List (Event Name E) → PartyOf E → Type 0
  AllTaken h w = IsPrefixOf (pushes h) (taken_elements (plain w.seen))

  -- others took elements, by what the party w has seen since it was u
  abbrev pub OthersTook : PartyOf E → PartyOf E → Type 0
  OthersTook u w =
      (rest : List (Bool × Event Name E)) × (w.seen ≡ u.seen ++ rest) × (taken_elements (others rest) ≢ [])
