use Rattle.std.proofs.Common.{rules}
use Rattle.cordyceps_base.proofs.single_chain.ValuesClone.clone.Goals as goal

pub returns : goal.returns
returns g c = search rules
