use Rattle.cordyceps_base.proofs.Segments.{place_there, value_there}
use Rattle.cordyceps_base.proofs.double_chain.DoubleChain.get_at.Goals as goal

pub get-requires : goal.get-requires
get-requires g c =
    let ns = c.self.inside.boxes.blocks in place_there ns c.from_address.result.now.blocks c.args.self.now c.args.at.ptr c.self.view_is c.requires c.from_address.ensures

pub returns : goal.returns
returns g c =
    let ns = c.self.inside.boxes.blocks in value_there ns c.from_address.result.now.blocks c.args.self.now c.args.at.ptr c.self.view_is c.requires c.from_address.ensures c.get.result.now c.get.ensures
