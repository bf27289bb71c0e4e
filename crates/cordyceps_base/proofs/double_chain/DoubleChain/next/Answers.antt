use Rattle.cordyceps_base.proofs.DoubleChain.{next_place, next_end}
use Rattle.cordyceps_base.proofs.Nodes.{at_place}
use Rattle.cordyceps_base.proofs.double_chain.DoubleChain.next.Goals as goal

pub get-requires : goal.get-requires
get-requires g c = at_place c.self.inside.boxes.blocks c.args.self.now c.self.view_is c.args.k c.args.at.ptr c.requires

pub returns : goal.returns
returns g c = record {
  on = next_place c.self.inside.head.ptr c.self.inside.tail.ptr c.self.inside.len c.self.inside.boxes.blocks c.args.self.now c.self.view_is c.self.invariant c.args.k c.get.result.now c.get.ensures;
  end = next_end c.self.inside.head.ptr c.self.inside.tail.ptr c.self.inside.len c.self.inside.boxes.blocks c.args.self.now c.self.view_is c.self.invariant c.args.k c.get.result.now c.get.ensures;
}
