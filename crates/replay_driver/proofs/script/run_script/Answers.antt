use Rattle.std.proofs.Common.{refl}
use Rattle.replay_driver.proofs.Running.{runs_without_memory, runs_flushed, runs_unflushed, runs_unwritten, from_empty}
use Rattle.replay_driver.proofs.script.run_script.Goals as goal

pub returns-in_default-clause-runs : goal.returns-in_default-clause-runs
returns-in_default-clause-runs g c = runs_without_memory (g.met.I.Source.gives_nothing c.args.input.now) (g.met.O.Sink.takes_nothing c.args.output.now)

pub returns-then-has_stopped_writing-clause-runs : goal.returns-then-has_stopped_writing-clause-runs
returns-then-has_stopped_writing-clause-runs g c =
    runs_unwritten c.end_lines-end.new.text.items c.read_lines-halt.result c.end_lines-end.result (from_empty c.read_lines-halt.ensures.halts c.new-text.ensures.items) c.end_lines-end.ensures.ended
    (c.if-has_stopped_writing.ensures.0 refl)

pub returns-in-Ok-flush-clause-runs : goal.returns-in-Ok-flush-clause-runs
returns-in-Ok-flush-clause-runs g c =
    runs_flushed g.met.O.Sink.takes_more c.end_lines-end.new.text.items c.read_lines-halt.result c.end_lines-end.result (from_empty c.read_lines-halt.ensures.halts c.new-text.ensures.items) c.end_lines-end.ensures.ended
    (λ is. let no = c.if-has_stopped_writing.ensures.1 is in cc) c.in-Ok-flush.ensures.wrote

pub returns-clause-runs : goal.returns-clause-runs
returns-clause-runs g c =
    runs_unflushed g.met.O.Sink.takes_more c.end_lines-end.new.text.items c.read_lines-halt.result c.end_lines-end.result (from_empty c.read_lines-halt.ensures.halts c.new-text.ensures.items) c.end_lines-end.ensures.ended
    (λ is. let no = c.if-has_stopped_writing.ensures.1 is in cc) c.in-Err.ensures.fails c.in-Err.ensures.front.0 c.in-Err.ensures.front.1
