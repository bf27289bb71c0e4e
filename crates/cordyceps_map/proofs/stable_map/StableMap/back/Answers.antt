use Rattle.cordyceps_map.proofs.Seen.{some_outer}
use Rattle.cordyceps_map.proofs.stable_map.StableMap.back.Goals as goal

pub returns-clause-there : goal.returns-clause-there
returns-clause-there g c = some_outer c.self.inside.nodes.nodes c.self.inside.nodes.lists c.args.self.now c.self.view_is c.back.result c.back.ensures.there
