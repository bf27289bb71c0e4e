-- What a chain ends as, once a `&mut` to a value has ended.
use Rattle.std.specs.Prelude.{ℕ}
use Rattle.std.specs.Borrow.{Fml, RattleType, MutBor, Lends}
use Rattle.cordyceps_base.specs.Nodes.{Nodes, with_item}
use Rattle.cordyceps_base.specs.contracts.double_chain.DoubleChain.{the_row}

-- the same nodes with the last value written through r as the k-th value
abbrev pub lends_item : (T : RattleType) → MutBor (Nodes T.Denot) → ℕ → MutBor T.Denot → Fml
lends_item T c k r = Lends (the_row T) T c r (with_item c.now k)
