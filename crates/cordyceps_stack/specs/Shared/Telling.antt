-- How a receipt is split off a seat, and how a seat takes one in. A receipt is a seat without a share: it has no rooms,
-- takes no step, and knows a prefix of the history.
use Rattle.std.specs.Prelude.{◌≡◌, ℕ, []}
use Rattle.atomic_table.specs.Seated.{TableId}
use Rattle.cordyceps_shared.specs.Histories.{plain}
use Rattle.cordyceps_shared.specs.Knowing.{IsPrefixOf, known_telling, known_hearing}
use Rattle.cordyceps_stack.specs.Shared.Plays.{SeatState, Sees}
use Rattle.cordyceps_stack.specs.Shared.Receipts.{ReceiptOf}
use Rattle.cordyceps_stack.specs.Shared.Rule.{IsTable}
use Rattle.cordyceps_stack.specs.Shared.Slots.{TableStep, view, hand}
use Rattle.cordyceps_stack.specs.Shared.View.{Idle, View}

module _ {E : Type 0} where
  -- a seat from which a receipt is split is as before
  abbrev pub view_as_is : View E → View E
  view_as_is v = v

  -- what the receipt has
  abbrev pub view_telling : View E → View E
  view_telling v = record { known = known_telling v.known; free = record { rooms = []; end = 0 }; doing = Idle }

  -- what a seat has that took a receipt in, and has yet to look
  abbrev pub view_hearing : View E → View E → View E
  view_hearing v w = record v { known = known_hearing v.known w.known }

  -- a load of the head: the party has seen all, and so what it was told
  pub record HasHeard (m k : SeatState E) : Type 0 where
    pub view_is : view k ≡ record (view m) { known = (view k).known }
    pub hand : hand k ≡ hand m
    pub sees : Sees (view m) [] (view k)
    pub told : IsPrefixOf (plain (view m).known.told) (plain (view k).known.seen)

  abbrev pub after_hear : TableStep E → SeatState E → ℕ → SeatState E → Type 0
  after_hear st m found k = HasHeard m k

  -- the seat is a receipt
  pub record IsReceipt (z : TableId) (m : SeatState E) : Type 0 where
    pub table : IsTable z
    pub hand : hand m ≡ []
    pub share : (view m).known.share ≡ []

  -- what a contract sees of it
  abbrev pub receipt_of : TableId → View E → ReceiptOf E
  receipt_of z v = record { table = z; told = plain v.known.seen }
