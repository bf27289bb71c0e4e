use Rattle.cordyceps_tree.proofs.Ones.{alone_there, alone_value}
use Rattle.cordyceps_tree.proofs.alone.Alone.value.Goals as goal

pub get-requires : goal.get-requires
get-requires g c = let (e, is) = c.requires in alone_there c.args.self.now.row.boxes.blocks c.args.self.now.at.ptr e is

pub returns : goal.returns
returns g c = λ e is. alone_value c.args.self.now.row.boxes.blocks c.args.self.now.at.ptr e c.get.result.now is c.get.ensures
