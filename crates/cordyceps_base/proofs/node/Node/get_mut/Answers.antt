use Rattle.std.proofs.Common.{rules}
use Rattle.cordyceps_base.proofs.node.Node.get_mut.Goals as goal

pub returns : goal.returns
returns g c = search rules
