use Rattle.std.proofs.Common.{◌∙◌}
use Rattle.cordyceps_map.proofs.Looking.{found_some}
use Rattle.cordyceps_map.proofs.stable_map.StableMap.contains_key.Goals as goal

pub returns : goal.returns
returns g c = c.is_some.ensures ∙ found_some g.K.PartialEq.eq c.args.key.now c.args.self.now.nodes c.find.result c.find.ensures.found
