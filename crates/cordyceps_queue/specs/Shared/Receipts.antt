-- What a receipt of a shared queue tells, and what a party learns from it.
use Rattle.std.specs.Prelude.{◌≡◌, ◌<◌, List, [], length}
use Rattle.atomic_table.specs.Seated.{TableId}
use Rattle.cordyceps_shared.specs.Histories.{plain}
use Rattle.cordyceps_shared.specs.Knowing.{IsPrefixOf}
use Rattle.cordyceps_shared.specs.Shares.{Name}
use Rattle.cordyceps_queue.specs.History.{Event, came, went}
use Rattle.cordyceps_queue.specs.Shared.Calls.{PartyOf, Adds}

-- what a contract sees of a receipt: its queue's table, and the history that it tells
pub record ReceiptOf (E : Type 0) : Type 0 where
  pub table : TableId
  pub told : List (Event Name E)

module _ {E : Type 0} where
  -- the party has seen more, with no event of its own, and what it has seen begins with the history h. It has as many
  -- rooms as it had
  pub record Learns (h : List (Event Name E)) (u w : PartyOf E) : Type 0 where
    pub adds : Adds u [] w
    pub told : IsPrefixOf h (plain w.seen)
    pub rooms : w.rooms ≡ u.rooms

  -- more elements came in by the history h than have gone out by what the party has seen
  abbrev pub TellsOfMore : List (Event Name E) → PartyOf E → Type 0
  TellsOfMore h u = length (went (plain u.seen)) < length (came h)
