use Rattle.std.proofs.Common.{refl}
use Rattle.cordyceps_tables.proofs.Ordered.{made_is, left_is, item_order_back}
use Rattle.cordyceps_tables.proofs.replay.sorteds.run_greatest.Goals.{in-Some, in_default}
use Rattle.cordyceps_tables.proofs.replay.sorteds.run_greatest.Goals as goal

pub returns-clause-ok : goal.returns-clause-ok
returns-clause-ok c = λ sorted.
    let means = c.in_ok-reply.ensures.ok _ refl sorted in
    elim c.match-stack.branch [
      | in-Some w ↦ rw w.list-is (made_is item_order_back c.run_on.new.list.elements w.from_stack_max.result.elements w.in-Some.stack c.in_ok-reply.stack _ _ means w.in-Some.is w.from_stack_max.ensures)
      | in_default w ↦ rw w.list-is (left_is _ c.run_on.new.list.elements c.in_ok-reply.stack _ _ means w.in_default.is)
    ]
