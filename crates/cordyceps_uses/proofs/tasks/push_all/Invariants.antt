use Rattle.std.proofs.Common.{◌≡◌, ◌≤◌, ◌++◌, length}
use Rattle.cordyceps.specs.Parties.Histories.{plain}
use Rattle.cordyceps.specs.Transfers.History.{held}
use Rattle.cordyceps_uses.proofs.tasks.push_all.Given as goal

abbrev pub invariant-loop-task : goal.invariant-loop-task
invariant-loop-task g l =
    (held (plain l.party.seen) ++ l.task-iterator ≡ held (plain l.fn.party.seen) ++ l.fn.tasks)
    × (l.party.table ≡ l.fn.party.table) × (l.party.share ≡ l.fn.party.share) × (length l.task-iterator ≤ l.party.rooms)
