use Rattle.std.proofs.Common.{rules}
use Rattle.cordyceps_shared_uses.proofs.logger.store_more.Goals as goal

pub returns-clause-stored : goal.returns-clause-stored
returns-clause-stored c = search rules
