-- What a node ends as, once a `&mut` to its value has ended.
use Rattle.std.specs.Borrow.{Fml, RattleType, MutBor, Lends}
use Rattle.cordyceps_base.specs.Element.{Element}
use Rattle.cordyceps_many.specs.declared.hooks.Rows as rows
use Rattle.cordyceps_many.specs.contracts.node.MultiNode.{the_row}

-- the node keeps its number, and its value is the last one written
abbrev pub LendsValue : (T H A E : RattleType) (g : rows.Ghosts H.Denot A.Denot E.Denot) → MutBor (Element T.Denot) →
    MutBor T.Denot → Fml
LendsValue T H A E g n r = Lends (the_row T H A E g) T n r (λ w. record n.now { value = w })
