use Rattle.cordyceps_tables.proofs.Ordered.{made_is, left_is}
use Rattle.cordyceps_tables.proofs.replay.sorteds.run_own.Goals.{in-Some, in_default}
use Rattle.cordyceps_tables.proofs.replay.sorteds.run_own.Goals as goal

pub run_on-requires : goal.run_on-requires
run_on-requires g c = rw c.requires.same (c.requires.callable, c.requires.total)

pub returns-clause-ok : goal.returns-clause-ok
returns-clause-ok g c = λ cmp by sorted.
    let means = c.in_ok-reply.ensures.ok cmp (rw c.requires.same by) sorted in
    elim c.match-stack.branch [
      | in-Some w ↦ rw w.list-is (made_is by.lawful c.run_on.new.list.elements w.from_stack_with_cmp.result.elements w.in-Some.stack c.in_ok-reply.stack _ _ means w.in-Some.is (w.from_stack_with_cmp.ensures.arrangement cmp by))
      | in_default w ↦ rw w.list-is (left_is cmp c.run_on.new.list.elements c.in_ok-reply.stack _ _ means w.in_default.is)
    ]
