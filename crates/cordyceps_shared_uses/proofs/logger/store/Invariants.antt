use Rattle.std.proofs.Common.{◌≡◌, ◌++◌, map}
use Rattle.cordyceps_shared_uses.specs.Logger.{record_of}
use Rattle.cordyceps_shared_uses.proofs.logger.store.Given as goal

abbrev pub invariant-loop-record : goal.invariant-loop-record
invariant-loop-record l = l.log.items ++ map record_of l.record-iterator ≡ l.initial.log.items ++ map record_of l.fn.batch
