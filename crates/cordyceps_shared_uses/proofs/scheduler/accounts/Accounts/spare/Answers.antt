use Rattle.std.proofs.Common.{rules}
use Rattle.cordyceps_shared_uses.specs.Accounts.{blank}
use Rattle.cordyceps_shared_uses.proofs.Accounting.{copies, at_rest, blank_backed, resting_backed}
use Rattle.cordyceps_shared_uses.proofs.scheduler.accounts.Accounts.spare.Goals as goal

pub split_seat-requires : goal.split_seat-requires
split_seat-requires c = (search rules, search rules, copies _ _ _ (resting_backed _ c.requires.rest))

pub returns-clause-rest : goal.returns-clause-rest
returns-clause-rest c = at_rest _ (blank 0) c.split_seat.ensures.4 (blank_backed 0)
