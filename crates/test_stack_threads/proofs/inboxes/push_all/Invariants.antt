use Rattle.std.proofs.Common.{◌≡◌}
use Rattle.test_stack_threads.proofs.inboxes.push_all.Given as goal

abbrev pub invariant-loop-wanted : goal.invariant-loop-wanted
invariant-loop-wanted g l = (l.party.table ≡ l.initial.party.table) × (l.party.share ≡ l.initial.party.share)
