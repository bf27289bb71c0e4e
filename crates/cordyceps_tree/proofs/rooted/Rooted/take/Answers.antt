use Rattle.std.proofs.Common.{◌≡◌, true, sym, subst}
use Rattle.cordyceps_base.specs.Boxes.{box_addresses}
use Rattle.cordyceps_tree.specs.Rows.{nodes_of}
use Rattle.cordyceps_tree.specs.Trees.{is_in}
use Rattle.cordyceps_tree.proofs.Placing.{spot_in}
use Rattle.cordyceps_tree.proofs.Saying.{gone_taken, gone_whole}
use Rattle.cordyceps_tree.proofs.rooted.Rooted.take.Goals as goal

pub first_without-first-requires-clause-there : goal.first_without-first-requires-clause-there
first_without-first-requires-clause-there g c =
    let ns = c.self.inside.row.boxes.blocks in
    subst (λ q. is_in q (box_addresses ns) ≡ true) (sym c.address_of-address.ensures) (spot_in ns c.args.self.now c.args.at c.self.view_is c.requires)

pub removed-one-requires-clause-there : goal.removed-one-requires-clause-there
removed-one-requires-clause-there g c =
    let ns = c.self.inside.row.boxes.blocks in
    subst (λ q. is_in q (box_addresses ns) ≡ true) (sym c.address_of-address.ensures) (spot_in ns c.args.self.now c.args.at c.self.view_is c.requires)

pub invariant_of-self : goal.invariant_of-self
invariant_of-self g c =
    gone_whole c.self.inside.row.boxes.blocks c.removed-one.new.row.boxes.blocks c.self.inside.root.ptr c.removed-one.result.root.ptr c.self.inside.first.ptr c.address_of-address.result.ptr c.first_without-first.result.ptr c.self.inside.len c.removed-one.result.one.boxes.blocks
    c.self.invariant c.removed-one.ensures.tree c.removed-one.ensures.gone c.first_without-first.ensures

pub returns-clause-taken : goal.returns-clause-taken
returns-clause-taken g c =
    gone_taken (nodes_of c.self.inside.row.boxes.blocks) c.args.self.now (nodes_of c.removed-one.new.row.boxes.blocks) c.address_of-address.result.ptr c.args.at c.removed-one.result.one.boxes.blocks c.self.view_is c.address_of-address.ensures c.removed-one.ensures.gone
