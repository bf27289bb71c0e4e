use Rattle.std.proofs.Common.{rules}
use Rattle.cordyceps_base.proofs.double_chain.DoubleChain.unlink.Goals as goal

pub returns-clause-node : goal.returns-clause-node
returns-clause-node g c = (c.args.at.ptr, search rules)

pub returns-clause-others : goal.returns-clause-others
returns-clause-others g c = search rules
