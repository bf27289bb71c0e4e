use Rattle.std.proofs.Common.{◌≡◌}
use Rattle.test_schedulers.proofs.journals.a_sink_that_refuses_records_has_the_others.Given as goal

abbrev pub invariant-loop-time : goal.invariant-loop-time
invariant-loop-time g l = l.handle.party.table ≡ l.writer.table
