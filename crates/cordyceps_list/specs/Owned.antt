-- What an owned cursor ends as, once a loan of a value has ended.
use Rattle.std.specs.Prelude.{ℕ}
use Rattle.std.specs.Borrow.{Fml, RattleType, MutBor, Lends}
use Rattle.cordyceps_base.specs.Element.{with_value}
use Rattle.cordyceps_list.specs.Position.{Position}
use Rattle.cordyceps_list.specs.contracts.owned.OwnedCursor.{the_row}

module _ (R : RattleType) where
  -- the value at place k is the last one written, and the cursor is at place j
  abbrev pub LendsAndGoesTo : MutBor (Position R.Denot) → ℕ → ℕ → MutBor R.Denot → Fml
  LendsAndGoesTo c k j r = Lends (the_row R) R c r (λ w. record { elements = with_value c.now.elements k w; place = j })
