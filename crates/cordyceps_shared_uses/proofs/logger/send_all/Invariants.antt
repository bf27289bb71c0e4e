use Rattle.std.proofs.Common.{◌≡◌, ◌++◌, List, [], length, map}
use Rattle.cordyceps.specs.Queues.Moves.{Moves}
use Rattle.cordyceps_shared_uses.specs.declared.logger.Record.{Record}
use Rattle.cordyceps_shared_uses.specs.Logger.{record_of}
use Rattle.cordyceps_shared_uses.proofs.logger.send_all.Given as goal

abbrev pub invariant-loop-record : goal.invariant-loop-record
invariant-loop-record g l =
    (sent : List Record) × (map record_of l.initial.records ≡ sent ++ map record_of l.records) × Moves record_of sent [] l.initial.party l.party

abbrev pub decreases-loop-record : goal.decreases-loop-record
decreases-loop-record g l = length l.records
