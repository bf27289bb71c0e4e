use Rattle.cordyceps_heap.proofs.stable_heap.StableHeap+T+Least.new_min.Goals as goal

pub returns-clause-arrivals : goal.returns-clause-arrivals
returns-clause-arrivals g c = c.new_with_order.ensures.arrivals _
