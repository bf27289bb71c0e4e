use Rattle.std.proofs.Common.{rules}
use Rattle.cordyceps_single.proofs.stack.Stack.pop.Goals as goal

pub returns : goal.returns
returns g c = search rules
