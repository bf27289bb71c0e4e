use Rattle.std.proofs.Common.{subst}
use Rattle.cordyceps_many.specs.MultiList.{HasNumber}
use Rattle.cordyceps_map.specs.StableMap.{Mapped}
use Rattle.cordyceps_map.proofs.Seen.{inner_has}
use Rattle.cordyceps_map.proofs.ShownNodes.{shown_number}
use Rattle.cordyceps_map.proofs.stable_map.StableMap.id.Goals as goal

pub id-requires : goal.id-requires
id-requires g c = inner_has c.self.inside.nodes.nodes c.self.inside.nodes.lists c.args.self.now c.self.view_is c.args.at c.requires

pub returns : goal.returns
returns g c =
    subst (λ (v : Mapped (g.row.K.Denot × g.row.V.Denot)). HasNumber v.nodes c.args.at c.id.result) c.self.view_is (shown_number c.self.inside.nodes.nodes c.args.at c.id.result c.id.ensures)
