use Rattle.std.proofs.Common.{List, map}
use Rattle.cordyceps.specs.Channels.Channels.{Receives}
use Rattle.cordyceps.specs.Elements.Element.{Element}
use Rattle.cordyceps_shared_uses.specs.Journal.{Writes, Asks, empty_report}
use Rattle.cordyceps_shared_uses.specs.Logger.{record_of}
use Rattle.cordyceps_shared_uses.specs.declared.logger.Record.{Record}
use Rattle.cordyceps_shared_uses.proofs.journal.Writer.run.Given as goal

abbrev pub invariant-loop : goal.invariant-loop
invariant-loop g l =
    (es : List (Element Record)) × Receives es l.initial.self l.self
    × Writes (map record_of es) (g.S.Sink.written l.initial.sink) (g.S.Sink.written l.sink) empty_report l.report
    × Asks g.S.Sink.answers (map record_of es) l.initial.sink l.sink empty_report l.report
