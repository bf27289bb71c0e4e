use Rattle.std.proofs.Common.{◌≡◌}
use Rattle.test_stack_threads.proofs.inboxes.receives.Given as goal

abbrev pub invariant-loop-wanted : goal.invariant-loop-wanted
invariant-loop-wanted g l = (l.inbox.party.table ≡ l.initial.inbox.party.table) × (l.inbox.party.share ≡ l.initial.inbox.party.share)
