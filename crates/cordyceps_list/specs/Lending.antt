-- What a list ends as, once a loan of a value has ended.
use Rattle.std.specs.Prelude.{ℕ, Option}
use Rattle.std.specs.Borrow.{Fml, RattleType, MutBor, Lends, LendsIf}
use Rattle.cordyceps_base.specs.Element.{Elements, with_value}
use Rattle.cordyceps_list.specs.contracts.list.List.{the_row}

module _ (R : RattleType) where
  -- the value at the place is the last one written, and nothing else changes
  abbrev pub LendsAt : MutBor (Elements R.Denot) → ℕ → MutBor R.Denot → Fml
  LendsAt l k r = Lends (the_row R) R l r (with_value l.now k)

  -- the same where a value was lent; else the list is as it was
  abbrev pub LendsIfAt : MutBor (Elements R.Denot) → ℕ → Option (MutBor R.Denot) → Fml
  LendsIfAt l k r = LendsIf (the_row R) R l r (with_value l.now k) l.now
