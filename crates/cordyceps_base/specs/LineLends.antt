-- What a line ends as, once a `&mut` to its first value has ended.
use Rattle.std.specs.Borrow.{Fml, RattleType, MutBor, Lends}
use Rattle.cordyceps_base.specs.Nodes.{Nodes, with_item}
use Rattle.cordyceps_base.specs.contracts.double_lines.Line.{the_row}

-- the same nodes with the last value written through r as the first value
abbrev pub lends_first : (T : RattleType) → MutBor (Nodes T.Denot) → MutBor T.Denot → Fml
lends_first T c r = Lends (the_row T) T c r (with_item c.now 0)
