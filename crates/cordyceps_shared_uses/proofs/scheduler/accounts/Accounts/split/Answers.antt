use Rattle.std.proofs.Common.{rules}
use Rattle.cordyceps_shared_uses.proofs.scheduler.accounts.Accounts.split.Goals as goal

pub returns-clause-kept : goal.returns-clause-kept
returns-clause-kept c = search rules
