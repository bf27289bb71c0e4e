use Rattle.std.proofs.Common.{refl}
use Rattle.cordyceps_many.proofs.Shared.{none_left}
use Rattle.cordyceps_many.proofs.multi_list.MultiList.finish.Goals as goal

pub discard-requires : goal.discard-requires
discard-requires g c = none_left g.H.Rows.count c.self.inside.ends c.self.inside.row.boxes.blocks c.args.self c.self.invariant c.self.view_is c.self.inside.row.boxes.blocks refl c.requires
