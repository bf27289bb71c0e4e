use Rattle.std.proofs.Common.{◌≡◌, true, sym, subst}
use Rattle.cordyceps_base.specs.Boxes.{box_addresses}
use Rattle.cordyceps_tree.specs.Rows.{nodes_of}
use Rattle.cordyceps_tree.specs.Trees.{is_in}
use Rattle.cordyceps_tree.proofs.Ones.{alone_of}
use Rattle.cordyceps_tree.proofs.Placing.{spot_in}
use Rattle.cordyceps_tree.proofs.Saying.{swapped_whole, swapped_replaced}
use Rattle.cordyceps_tree.proofs.rooted.Rooted.replace.Goals as goal

pub is_first-is_first-requires-clause-there : goal.is_first-is_first-requires-clause-there
is_first-is_first-requires-clause-there g c =
    let ns = c.self.inside.row.boxes.blocks in
    subst (λ q. is_in q (box_addresses ns) ≡ true) (sym c.address_of-address.ensures) (spot_in ns c.args.self.now c.args.at c.self.view_is c.requires.there)

pub replaced-old-requires-clause-there : goal.replaced-old-requires-clause-there
replaced-old-requires-clause-there g c =
    let ns = c.self.inside.row.boxes.blocks in
    subst (λ q. is_in q (box_addresses ns) ≡ true) (sym c.address_of-address.ensures) (spot_in ns c.args.self.now c.args.at c.self.view_is c.requires.there)

pub replaced-old-requires-clause-one : goal.replaced-old-requires-clause-one
replaced-old-requires-clause-one g c =
    let (e, is) = c.requires.alone in let u = alone_of c.args.one.row.boxes.blocks c.args.one.at.ptr e is in (u.alloc, u.block, u.is)

pub invariant_of-self : goal.invariant_of-self
invariant_of-self g c =
    let ns = c.self.inside.row.boxes.blocks in let ms = c.replaced-old.new.row.boxes.blocks in let (e, is) = c.requires.alone in
    swapped_whole ns ms c.self.inside.root.ptr c.replaced-old.result.root.ptr c.self.inside.first.ptr c.address_of-address.result.ptr c.args.one.at c.chosen-self-inside.result c.self.inside.first c.is_first-is_first.result c.self.inside.len c.replaced-old.result.one.boxes.blocks e
    c.self.invariant c.replaced-old.ensures.tree (c.replaced-old.ensures.swapped e is) c.is_first-is_first.ensures c.chosen-self-inside.ensures

pub returns-clause-replaced : goal.returns-clause-replaced
returns-clause-replaced g c = λ e is.
    swapped_replaced (nodes_of c.self.inside.row.boxes.blocks) c.args.self.now (nodes_of c.replaced-old.new.row.boxes.blocks) c.address_of-address.result.ptr c.args.at c.args.one.at.ptr c.replaced-old.result.one.boxes.blocks e c.self.view_is c.address_of-address.ensures (c.replaced-old.ensures.swapped e is)
