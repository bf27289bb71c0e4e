use Rattle.std.proofs.Common.{rules}
use Rattle.cordyceps_single.proofs.stack.Stack.push_was_empty.Goals as goal

pub returns-clause-was_empty : goal.returns-clause-was_empty
returns-clause-was_empty g c = search rules

pub returns-clause-pushed : goal.returns-clause-pushed
returns-clause-pushed g c = search rules
