use Rattle.std.proofs.Common.{refl, subst}
use Rattle.std.specs.Fn.{FnOnceReturnsAtMut}
use Rattle.cordyceps_tree.proofs.Ones.{alone_there, alone_value, alone_changed}
use Rattle.cordyceps_tree.proofs.alone.Alone.change.Goals as goal

pub get_mut-block-requires : goal.get_mut-block-requires
get_mut-block-requires g c = let (e, is) = c.requires.alone in alone_there c.args.self.now.row.boxes.blocks c.args.self.now.at.ptr e is

pub change-requires : goal.change-requires
change-requires g c =
    let (e, is) = c.requires.alone in
    c.requires.callable e is _ (alone_value c.args.self.now.row.boxes.blocks c.args.self.now.at.ptr e c.get_mut-block.result.now is c.get_mut-block.ensures.value)

pub returns-clause-changed : goal.returns-clause-changed
returns-clause-changed g c = λ e is.
    let ns = c.args.self.now.row.boxes.blocks in let p = c.args.self.now.at.ptr in let b = c.get_mut-block.result.now in let w = c.change.new.arg2 in
    (w, alone_changed ns p e b w is c.get_mut-block.ensures.value, subst (λ v. FnOnceReturnsAtMut g.F.FnOnce c.args.change v c.change.result w) (alone_value ns p e b is c.get_mut-block.ensures.value) (record { shown = _; shows = refl; left = _; met = c.change.ensures; leaves = refl }))
