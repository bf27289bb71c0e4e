use Rattle.std.proofs.Common.{rules}
use Rattle.cordyceps_shared_uses.proofs.scheduler.accounts.Accounts.give.Goals as goal

pub returns-clause-gave : goal.returns-clause-gave
returns-clause-gave c = search rules

pub returns-clause-got : goal.returns-clause-got
returns-clause-got c = search rules
