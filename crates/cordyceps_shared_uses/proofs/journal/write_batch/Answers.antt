use Rattle.std.proofs.Common.{◌≡◌, ◌++◌, ◌∷◌, [], List, map, sym, ap, ◌∙◌, subst, append_assoc, append-nil, rules}
use Rattle.cordyceps.specs.Elements.Element.{Element}
use Rattle.cordyceps_shared_uses.specs.Journal.{Writes, Asks}
use Rattle.cordyceps_shared_uses.specs.Logger.{record_of}
use Rattle.cordyceps_shared_uses.specs.declared.logger.Record.{Record}
use Rattle.cordyceps_shared_uses.proofs.Journaling.{writes_none, writes_then, asks_none, asks_then}
use Rattle.cordyceps_shared_uses.proofs.journal.write_batch.Goals as goal

pub loop-entry-init : goal.loop-entry-init
loop-entry-init g c = (
  [],
  ap (λ (z : List (Element Record)). map record_of z) c.into_iter-entry-iterator.ensures.into_iter_gives,
  writes_none (g.S.Sink.written c.args.sink.now) c.args.report (search rules) (search rules),
  asks_none g.S.Sink.answers c.args.sink.now c.args.report (search rules),
)

pub loop-entry-preserved : goal.loop-entry-preserved
loop-entry-preserved g c =
    let (done, all, before, asked) = c.loop-entry.invariant in
    let rest = map record_of c.next.new.self in (
      done ++ c.get.result.now ∷ [],
      append_assoc done (c.get.result.now ∷ []) rest ∙ (ap (λ (r : Record). done ++ r ∷ rest) c.get.ensures
          ∙ (ap (λ (z : List (Element Record)). done ++ map record_of z) (sym c.in-Some.ensures.steps) ∙ all)),
      writes_then done (c.get.result.now ∷ []) (g.S.Sink.written c.args.sink.now) (g.S.Sink.written c.loop-entry.sink) (g.S.Sink.written c.write_one-report.new.sink) c.args.report c.loop-entry.report
          c.write_one-report.result before c.write_one-report.ensures.writes,
      asks_then g.S.Sink.answers done (c.get.result.now ∷ []) c.args.sink.now c.loop-entry.sink c.write_one-report.new.sink c.args.report c.loop-entry.report c.write_one-report.result asked
          c.write_one-report.ensures.asks,
    )

pub returns-clause-writes : goal.returns-clause-writes
returns-clause-writes g c =
    let (done, all, before, _) = c.loop-entry.invariant in
    let is : done ≡ map record_of c.args.batch = sym (append-nil done) ∙ (ap (λ (z : List (Element Record)). done ++ map record_of z) (sym c.in-None.ensures.steps.0) ∙ all) in
    subst (λ (l : List Record). Writes l (g.S.Sink.written c.args.sink.now) (g.S.Sink.written c.loop-entry.sink) c.args.report c.loop-entry.report) is before

pub returns-clause-asks : goal.returns-clause-asks
returns-clause-asks g c =
    let (done, all, _, asked) = c.loop-entry.invariant in
    let is : done ≡ map record_of c.args.batch = sym (append-nil done) ∙ (ap (λ (z : List (Element Record)). done ++ map record_of z) (sym c.in-None.ensures.steps.0) ∙ all) in
    subst (λ (l : List Record). Asks g.S.Sink.answers l c.args.sink.now c.loop-entry.sink c.args.report c.loop-entry.report) is asked
