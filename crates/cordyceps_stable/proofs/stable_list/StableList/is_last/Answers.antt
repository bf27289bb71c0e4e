use Rattle.cordyceps_base.specs.BySpot.{IsLast}
use Rattle.cordyceps_stable.proofs.Spots.{end_told}
use Rattle.cordyceps_stable.proofs.stable_list.StableList.is_last.Goals as goal

pub returns : goal.returns
returns g c = end_told IsLast c.is_last_at.result c.self.inside.chain c.args.self.now c.at.inside.address.ptr c.args.at c.is_last_at.ensures c.self.view_is c.at.view_is
