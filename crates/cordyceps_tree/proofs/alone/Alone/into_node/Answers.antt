use Rattle.std.proofs.Common.{[], ◌∷◌, ap, sym, ◌∙◌}
use Rattle.cordyceps_tree.specs.Rows.{nodes_of, block_element}
use Rattle.cordyceps_tree.proofs.Ones.{alone_of}
use Rattle.cordyceps_tree.proofs.alone.Alone.into_node.Goals as goal

pub only-requires : goal.only-requires
only-requires g c = let (e, is) = c.requires in let u = alone_of c.args.self.row.boxes.blocks c.args.self.at.ptr e is in (u.block, u.is)

pub returns : goal.returns
returns g c = ap nodes_of c.only.ensures ∙ ap (λ x. (c.args.self.at.ptr, block_element x) ∷ []) (sym c.into_box-block.ensures)
