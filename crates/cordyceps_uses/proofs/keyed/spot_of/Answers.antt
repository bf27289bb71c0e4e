use Rattle.cordyceps_uses.proofs.ByKey.{spotted}
use Rattle.cordyceps_uses.proofs.keyed.spot_of.Goals as goal

pub returns-clause-found : goal.returns-clause-found
returns-clause-found g c = spotted g.K.PartialEq.eq c.args.map.now c.lists_agree.ensures c.args.key.now c.find.result c.find.ensures.found
