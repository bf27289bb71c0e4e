use Rattle.std.proofs.Common.{◌≡◌, ℕ, ◌-◌, ◌≤◌, List, take}
use Rattle.cordyceps_base.specs.DoubleLines.{flat, IsMarkedAt}
use Rattle.cordyceps_base.specs.Nodes.{OwnedNode}
use Rattle.cordyceps_base.proofs.double_lines.marked.Given as goal

abbrev pub invariant-loop-k : goal.invariant-loop-k
invariant-loop-k g l = (ls : List (List (OwnedNode g.row.T.Denot))) (j : ℕ) → l.row.blocks ≡ flat ls → IsMarkedAt (take l.count l.firsts) ls j → l.k ≤ j

abbrev pub decreases-loop-k : goal.decreases-loop-k
decreases-loop-k g l = l.count - l.k
