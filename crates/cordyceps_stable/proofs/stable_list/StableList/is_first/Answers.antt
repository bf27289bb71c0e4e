use Rattle.cordyceps_base.specs.BySpot.{IsFirst}
use Rattle.cordyceps_stable.proofs.Spots.{end_told}
use Rattle.cordyceps_stable.proofs.stable_list.StableList.is_first.Goals as goal

pub returns : goal.returns
returns g c = end_told IsFirst c.is_first_at.result c.self.inside.chain c.args.self.now c.at.inside.address.ptr c.args.at c.is_first_at.ensures c.self.view_is c.at.view_is
