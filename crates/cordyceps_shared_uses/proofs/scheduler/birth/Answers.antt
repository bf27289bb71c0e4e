use Rattle.std.proofs.Common.{rules}
use Rattle.cordyceps_shared_uses.proofs.scheduler.birth.Goals as goal

pub returns-clause-made : goal.returns-clause-made
returns-clause-made c = search rules

pub returns-clause-returned : goal.returns-clause-returned
returns-clause-returned c = search rules

pub returns-clause-id : goal.returns-clause-id
returns-clause-id c = search rules
