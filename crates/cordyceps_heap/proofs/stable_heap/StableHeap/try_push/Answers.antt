use Rattle.std.proofs.Common.{ap, subst}
use Rattle.cordyceps_base.specs.DoubleLines.{flat}
use Rattle.cordyceps_base.specs.Nodes.{spots}
use Rattle.cordyceps_base.specs.Spots.{AreDistinct}
use Rattle.cordyceps_heap.specs.Heap.{Heaped}
use Rattle.cordyceps_heap.proofs.Settled.{settled_distinct}
use Rattle.cordyceps_heap.proofs.stable_heap.StableHeap.try_push.Goals as goal

pub returns-then-len-clause-distinct : goal.returns-then-len-clause-distinct
returns-then-len-clause-distinct g c =
    let view = ap (λ (s : Heaped g.row.T.Denot g.row.O.Denot). s.lines) c.self.view_is in
    subst (λ s. AreDistinct (spots (flat s))) view (settled_distinct c.self.inside.ranked.lines c.are_distinct.ensures)
