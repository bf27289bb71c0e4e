use Rattle.cordyceps_stable.proofs.Spots.{first_is}
use Rattle.cordyceps_stable.proofs.stable_list.first_spot.Goals as goal

pub returns : goal.returns
returns g c = first_is c.args.chain.now c.head.result.ptr c.head.ensures
