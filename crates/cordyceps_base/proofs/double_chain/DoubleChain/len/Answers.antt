use Rattle.std.proofs.Common.{sym, ◌∙◌}
use Rattle.cordyceps_base.proofs.Nodes.{length_is}
use Rattle.cordyceps_base.proofs.double_chain.DoubleChain.len.Goals as goal

pub returns : goal.returns
returns g c = c.self.invariant.long ∙ sym (length_is c.self.inside.boxes.blocks c.args.self.now c.self.view_is)
