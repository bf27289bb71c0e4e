use Rattle.std.proofs.Common.{◌≡◌}
use Rattle.test_channels.proofs.in_a_row.send_each.Given as goal

abbrev pub invariant-loop-number : goal.invariant-loop-number
invariant-loop-number g l = (l.sender.table ≡ l.initial.sender.table) × (l.sender.share ≡ l.initial.sender.share)
