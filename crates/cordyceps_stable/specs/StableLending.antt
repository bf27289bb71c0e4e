-- What a stable list ends as, once a loan of a value has ended.
use Rattle.std.specs.Borrow.{Fml, RattleType, MutBor, Lends}
use denote.RawPtr.{Ptr}
use Rattle.cordyceps_base.specs.Nodes.{Nodes, spots, with_item}
use Rattle.cordyceps_base.specs.Spots.{index_of}
use Rattle.cordyceps_stable.specs.contracts.stable_list.StableList.{the_row}

module _ (R : RattleType) where
  -- the value at the spot is the last one written, and nothing else changes
  abbrev pub LendsSpot : MutBor (Nodes R.Denot) → Ptr → MutBor R.Denot → Fml
  LendsSpot l p r = Lends (the_row R) R l r (with_item l.now (index_of p (spots l.now)))
