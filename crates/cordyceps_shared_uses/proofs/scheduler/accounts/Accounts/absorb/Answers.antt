use Rattle.std.proofs.Common.{rules}
use Rattle.cordyceps_shared_uses.proofs.scheduler.accounts.Accounts.absorb.Goals as goal

pub returns : goal.returns
returns c = search rules
