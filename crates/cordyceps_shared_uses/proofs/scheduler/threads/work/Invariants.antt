use Rattle.std.proofs.Common.{◌≡◌, true}
use Rattle.cordyceps_shared_uses.specs.Accounts.{IsOpen}
use Rattle.cordyceps_shared_uses.specs.Names.{names}
use Rattle.cordyceps_shared_uses.specs.Scheduler.{all_done}
use Rattle.cordyceps_shared_uses.specs.Ways.{RanOneEach}
use Rattle.cordyceps_shared_uses.proofs.scheduler.threads.work.Given as goal

abbrev pub invariant-loop-turn : goal.invariant-loop-turn
invariant-loop-turn g l = IsOpen g.L.Run.accounts l.mine × RanOneEach l.mine (names l.done) (names l.kept) × (all_done l.done ≡ true)
