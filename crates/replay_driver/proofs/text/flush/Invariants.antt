use Rattle.std.proofs.Common.{◌≤◌, ◌-◌, vec_len, take}
use Rattle.replay_driver.proofs.text.flush.Given as goal

abbrev pub invariant-loop-start : goal.invariant-loop-start
invariant-loop-start g l = record { within : l.start ≤ vec_len l.text; wrote : g.O.Sink.takes l.fn.output l.output (take l.start l.text.items) }

abbrev pub decreases-loop-start : goal.decreases-loop-start
decreases-loop-start g l = vec_len l.text - l.start
