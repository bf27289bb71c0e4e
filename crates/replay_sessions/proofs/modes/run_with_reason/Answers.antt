use Rattle.cordyceps_tables.specs.Sorteds.{order_of}
use Rattle.cordyceps_tables.proofs.Ordered.{own}
use Rattle.replay_sessions.specs.Tens.{by_tens}
use Rattle.replay_sessions.proofs.modes.run_with_reason.Goals as goal

pub run_session-requires-in-Sorted : goal.run_session-requires-in-Sorted
run_session-requires-in-Sorted g c =
    let callable = rw c.in-Sorted.is at c.requires.callable in
    let tens = rw c.in-Sorted.is at c.requires.tens in
    rw c.new-session-in-Sorted.ensures.function (callable, tens, c.new-session-in-Sorted.ensures.in_order (order_of own by_tens))

pub returns-in-Sorted-clause-runs : goal.returns-in-Sorted-clause-runs
returns-in-Sorted-clause-runs g c = rw c.in-Sorted.is (c.run_session-in-Sorted.ensures.runs.0, rw c.new-session-in-Sorted.ensures.table at c.run_session-in-Sorted.ensures.runs.1)
