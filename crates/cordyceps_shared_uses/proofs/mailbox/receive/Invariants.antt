use Rattle.std.proofs.Common.{◌≡◌, List, ℕ, []}
use Rattle.std.specs.Prelude.{IfSome}
use Rattle.cordyceps.specs.Queues.Moves.{Moves}
use Rattle.cordyceps_shared_uses.specs.Mailbox.{value_of}
use Rattle.cordyceps_shared_uses.proofs.mailbox.receive.Given as goal

abbrev pub invariant-loop : goal.invariant-loop
invariant-loop g l = (got : List ℕ) × Moves value_of [] got l.fn.party l.party × IfSome l.received (λ all. all.items ≡ got)
