use Rattle.cordyceps_many.specs.InOrder.{AreGreaterAfter}
use Rattle.cordyceps_many.specs.MultiList.{list_at}
use Rattle.cordyceps_many.proofs.Placed.{nodes_to}
use Rattle.cordyceps_many.proofs.multi_list.MultiList.last_not_greater.Given as goal

abbrev pub invariant-loop-place : goal.invariant-loop-place
invariant-loop-place g l = AreGreaterAfter (g.O.Order.compares_by l.order) l.self.nodes l.fn.at (list_at l.i l.self.lists) l.place

abbrev pub decreases-loop-place : goal.decreases-loop-place
decreases-loop-place g l = nodes_to l.place (list_at l.i l.self.lists)
