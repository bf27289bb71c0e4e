use Rattle.cordyceps_heap.proofs.stable_heap.StableHeap+T+ByKey+T+F.new_by_key.Goals as goal

pub returns-clause-arrivals : goal.returns-clause-arrivals
returns-clause-arrivals g c = λ of by. c.new_with_order.ensures.arrivals _
