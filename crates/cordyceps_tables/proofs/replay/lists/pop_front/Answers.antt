use Rattle.std.proofs.Common.{rules}
use Rattle.cordyceps_tables.proofs.replay.lists.pop_front.Goals as goal

pub returns-clause-kept : goal.returns-clause-kept
returns-clause-kept c = search rules

pub returns-clause-reply : goal.returns-clause-reply
returns-clause-reply c = search rules
