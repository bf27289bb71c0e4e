use Rattle.std.proofs.Common.{rules}
use Rattle.cordyceps_stack.proofs.shared.calls.TransferStack.push.Goals as goal

pub returns-clause-pushed : goal.returns-clause-pushed
returns-clause-pushed g c = search rules

pub returns-clause-whole : goal.returns-clause-whole
returns-clause-whole g c = λ is. (c.push_was_empty.result, c.push_was_empty.ensures.whole is)
