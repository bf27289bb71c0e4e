use Rattle.std.proofs.Common.{◌≡◌, ◌++◌, [], List, map, refl, sym, ◌∙◌, subst, arith, rules}
use Rattle.std.proofs.lemmas.List.{append-nil, map-append, map-id}
use Rattle.cordyceps.specs.Elements.Element.{Element}
use Rattle.cordyceps.specs.Channels.Channels.{Receives}
use Rattle.cordyceps_shared_uses.specs.Journal.{Writes, Asks, Flush, empty_report}
use Rattle.cordyceps_shared_uses.specs.Logger.{record_of}
use Rattle.cordyceps_shared_uses.specs.declared.logger.Record.{Record}
use Rattle.cordyceps_shared_uses.proofs.Journaling.{receives_none, receives_then, writes_none, writes_then, writes_flushed}
use Rattle.cordyceps_shared_uses.proofs.Journaling.{asks_none, asks_then, then_flushes}
use Rattle.cordyceps_shared_uses.proofs.journal.Writer.run.Goals as goal

pub loop-init : goal.loop-init
loop-init g c = (
  [],
  receives_none c.args.self.now,
  writes_none (g.S.Sink.written c.args.sink.now) empty_report (omega arith) (omega arith),
  asks_none g.S.Sink.answers c.args.sink.now empty_report (omega arith),
)

pub loop-preserved : goal.loop-preserved
loop-preserved g c =
    let (es, receives, writes, asks) = c.loop.invariant in
    let batch = c.in-Ok.ensures.received in
    let more = batch.elements in
    let is : c.in-Ok.batch ≡ more = batch.items ∙ map-id more in
    let next = c.write_batch-report.ensures.writes in
    let next_of : Writes (map record_of more) (g.S.Sink.written c.loop.sink) (g.S.Sink.written c.write_batch-report.new.sink) c.loop.report c.write_batch-report.result =
    subst (λ z. Writes (map record_of more) z (g.S.Sink.written c.write_batch-report.new.sink) c.loop.report c.write_batch-report.result) c.receive.ensures.written
    (subst (λ (z : List (Element Record)). Writes (map record_of z) (g.S.Sink.written c.receive.new.sink) (g.S.Sink.written c.write_batch-report.new.sink) c.loop.report c.write_batch-report.result) is next) in
    let (flushed, answered) = c.receive.ensures.flushes in
    let asked = then_flushes g.S.Sink.answers (map record_of es) c.args.sink.now c.loop.sink c.receive.new.sink empty_report c.loop.report c.loop.report flushed asks answered refl (search rules) in
    let asked_next = subst (λ (z : List (Element Record)). Asks g.S.Sink.answers (map record_of z) c.receive.new.sink c.write_batch-report.new.sink c.loop.report c.write_batch-report.result) is c.write_batch-report.ensures.asks in (
      es ++ more,
      receives_then c.args.self.now c.loop.self c.receive.new.self es more receives batch.receives,
      subst (λ (z : List Record). Writes z (g.S.Sink.written c.args.sink.now) (g.S.Sink.written c.write_batch-report.new.sink) empty_report c.write_batch-report.result) (sym (map-append record_of es more))
          (writes_then (map record_of es) (map record_of more) (g.S.Sink.written c.args.sink.now) (g.S.Sink.written c.loop.sink) (g.S.Sink.written c.write_batch-report.new.sink) empty_report c.loop.report
          c.write_batch-report.result writes next_of),
      subst (λ (z : List Record). Asks g.S.Sink.answers z c.args.sink.now c.write_batch-report.new.sink empty_report c.write_batch-report.result) (sym (map-append record_of es more))
          (asks_then g.S.Sink.answers (map record_of es) (map record_of more) c.args.sink.now c.receive.new.sink c.write_batch-report.new.sink empty_report c.loop.report c.write_batch-report.result asked
          asked_next),
    )

pub returns-in-Err-clause-runs : goal.returns-in-Err-clause-runs
returns-in-Err-clause-runs g c =
    let (es, receives, writes, asks) = c.loop.invariant in
    let (last, over) = c.in-Err.ensures.received in
    let (flushed, answered) = c.receive.ensures.flushes in
    record {
      elements = es;
      receives = subst (λ (z : List (Element Record)). Receives z c.args.self.now c.receive.new.self) (append-nil es) (receives_then c.args.self.now c.loop.self c.receive.new.self es [] receives last);
      over = over;
      writes = writes_flushed (map record_of es) (g.S.Sink.written c.args.sink.now) (g.S.Sink.written c.loop.sink) (g.S.Sink.written c.flush.new.self) empty_report c.loop.report _ writes
          (c.flush.ensures.same ∙ c.receive.ensures.written) refl refl;
      last = c.receive.new.sink;
      asks = then_flushes g.S.Sink.answers (map record_of es) c.args.sink.now c.loop.sink c.receive.new.sink empty_report c.loop.report _ flushed asks answered refl (search rules);
      flushes = subst (λ b. g.S.Sink.answers (Flush b) c.receive.new.sink c.flush.new.self) (sym c.is_ok.ensures.value) c.flush.ensures.asked;
    }
