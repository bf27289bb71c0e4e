use Rattle.cordyceps_base.proofs.DoubleChain.{head_place}
use Rattle.cordyceps_base.proofs.double_chain.DoubleChain.head.Goals as goal

pub returns : goal.returns
returns g c = head_place c.self.inside.head.ptr c.self.inside.tail.ptr c.self.inside.len c.self.inside.boxes.blocks c.args.self.now c.self.view_is c.self.invariant c.requires
