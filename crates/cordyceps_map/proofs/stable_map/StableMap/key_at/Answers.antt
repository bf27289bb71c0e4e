use Rattle.cordyceps_map.proofs.Seen.{inner_has}
use Rattle.cordyceps_map.proofs.stable_map.StableMap.key_at.Goals as goal

pub get-requires : goal.get-requires
get-requires g c = inner_has c.self.inside.nodes.nodes c.self.inside.nodes.lists c.args.self.now c.self.view_is c.args.at c.requires
