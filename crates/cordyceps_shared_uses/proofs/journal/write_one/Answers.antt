use Rattle.std.proofs.Common.{refl, rules}
use Rattle.cordyceps_shared_uses.proofs.Journaling.{writes_kept, writes_refused, asks_written, asks_refused}
use Rattle.cordyceps_shared_uses.proofs.journal.write_one.Goals as goal

pub returns-in-Ok-clause-writes : goal.returns-in-Ok-clause-writes
returns-in-Ok-clause-writes g c =
    writes_kept c.args.event (g.S.Sink.written c.args.sink.now) (g.S.Sink.written c.write.new.self) c.args.report _ c.in-Ok.ensures.ok c.saturating_add.ensures refl (search rules)

pub returns-in-Ok-clause-asks : goal.returns-in-Ok-clause-asks
returns-in-Ok-clause-asks g c = asks_written g.S.Sink.answers c.args.event c.args.sink.now c.write.new.self c.args.report _ c.in-Ok.ensures.asked refl (search rules)

pub returns-in-Err-clause-writes : goal.returns-in-Err-clause-writes
returns-in-Err-clause-writes g c =
    writes_refused c.args.event (g.S.Sink.written c.args.sink.now) (g.S.Sink.written c.write.new.self) c.args.report _ c.in-Err.ensures.err refl c.saturating_add-in-Err.ensures (search rules)

pub returns-in-Err-clause-asks : goal.returns-in-Err-clause-asks
returns-in-Err-clause-asks g c = asks_refused g.S.Sink.answers c.args.event c.args.sink.now c.write.new.self c.args.report _ c.in-Err.ensures.asked c.saturating_add-in-Err.ensures
