use Rattle.std.proofs.Common.{◌≡◌, List, []}
use Rattle.std.specs.Prelude.{IfSome}
use Rattle.cordyceps.specs.Queues.Moves.{Moves}
use Rattle.cordyceps_shared_uses.specs.declared.logger.Record.{Record}
use Rattle.cordyceps_shared_uses.specs.Logger.{record_of}
use Rattle.cordyceps_shared_uses.proofs.logger.store_until_end.Given as goal

abbrev pub invariant-loop : goal.invariant-loop
invariant-loop g l =
    (got : List Record) × Moves record_of [] got l.fn.party l.consumer × IfSome l.log (λ log. log.items ≡ got)
