use Rattle.std.proofs.Common.{◌≡◌, List, ◌++◌, map}
use Rattle.cordyceps_shared_uses.specs.Journal.{Writes, Asks}
use Rattle.cordyceps_shared_uses.specs.Logger.{record_of}
use Rattle.cordyceps_shared_uses.specs.declared.logger.Record.{Record}
use Rattle.cordyceps_shared_uses.proofs.journal.write_batch.Given as goal

abbrev pub invariant-loop-entry : goal.invariant-loop-entry
invariant-loop-entry g l =
    (done : List Record) × (done ++ map record_of l.entry-iterator ≡ map record_of l.fn.batch)
    × Writes done (g.S.Sink.written l.initial.sink) (g.S.Sink.written l.sink) l.initial.report l.report
    × Asks g.S.Sink.answers done l.initial.sink l.sink l.initial.report l.report
