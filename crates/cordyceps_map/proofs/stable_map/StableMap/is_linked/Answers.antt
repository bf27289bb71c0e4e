use Rattle.cordyceps_map.proofs.Seen.{inner_has}
use Rattle.cordyceps_map.proofs.stable_map.StableMap.is_linked.Goals as goal

pub is_linked-requires-clause-there : goal.is_linked-requires-clause-there
is_linked-requires-clause-there g c = inner_has c.self.inside.nodes.nodes c.self.inside.nodes.lists c.args.self.now c.self.view_is c.args.at c.requires.there
