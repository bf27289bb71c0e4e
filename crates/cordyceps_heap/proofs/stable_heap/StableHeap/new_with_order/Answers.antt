use Rattle.std.proofs.Common.{ap, ◌∙◌}
use Rattle.cordyceps_base.specs.DoubleLines.{flat}
use Rattle.cordyceps_heap.specs.Heap.{settled}
use Rattle.cordyceps_heap.proofs.Settled.{holds_none, none_fresh}
use Rattle.cordyceps_heap.proofs.stable_heap.StableHeap.new_with_order.Goals as goal

pub returns-clause-nodes : goal.returns-clause-nodes
returns-clause-nodes g c = ap flat (none_fresh c.push.new.self c.new-ranked.result.lines c.empty.result c.push.ensures c.empty.ensures ∙ c.new-ranked.ensures)

pub returns-clause-arrivals : goal.returns-clause-arrivals
returns-clause-arrivals g c = λ cmp. holds_none cmp (settled c.push.new.self) (none_fresh c.push.new.self c.new-ranked.result.lines c.empty.result c.push.ensures c.empty.ensures ∙ c.new-ranked.ensures)
