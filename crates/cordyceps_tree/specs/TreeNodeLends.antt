-- What a node ends as, once a `&mut` to its value has ended.
use Rattle.std.specs.Borrow.{Fml, RattleType, MutBor, Lends}
use Rattle.cordyceps_base.specs.Element.{Element}
use Rattle.cordyceps_tree.specs.contracts.node.TreeNode.{the_row}

-- the node keeps its number, and its value is the last one written
abbrev pub LendsValue : (T : RattleType) → MutBor (Element T.Denot) → MutBor T.Denot → Fml
LendsValue T n r = Lends (the_row T) T n r (λ w. record n.now { value = w })
