use Rattle.std.proofs.Common.{subst}
use Rattle.cordyceps.specs.Parties.Histories.{plain}
use Rattle.cordyceps.specs.Parties.Knowing.{IsPrefixOf}
use Rattle.cordyceps_shared_uses.proofs.Journaling.{in_order, runs_after, written_in_order}
use Rattle.cordyceps_shared_uses.proofs.journal.close_and_write.Goals as goal

pub returns-clause-order : goal.returns-clause-order
returns-clause-order g c =
    let v = c.learn.new.self in
    let told = subst (λ h. IsPrefixOf h (plain v.seen)) c.close.ensures.receipt.1 c.learn.ensures.told in
    in_order g.S.Sink.written g.S.Sink.answers c.args.sink.now c.run.new.sink c.run.result c.args.journal.party v c.run.new.self told c.run.ensures.runs

pub returns-clause-written : goal.returns-clause-written
returns-clause-written g c = λ new none.
    let before = c.args.sink.now in
    let after = c.run.new.sink in
    let v = c.learn.new.self in
    let told = subst (λ h. IsPrefixOf h (plain v.seen)) c.close.ensures.receipt.1 c.learn.ensures.told in
    let among = in_order g.S.Sink.written g.S.Sink.answers before after c.run.result c.args.journal.party v c.run.new.self told c.run.ensures.runs in
    written_in_order g.S.Sink.written g.S.Sink.answers before after c.run.result c.args.journal.party c.args.writer.now c.run.new.self among
    (runs_after g.S.Sink.written g.S.Sink.answers before after c.run.result c.args.writer.now v c.run.new.self c.learn.ensures.received c.run.ensures.runs) new none
