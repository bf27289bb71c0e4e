use Rattle.std.proofs.Common.{sym, ◌∙◌}
use Rattle.cordyceps_base.specs.Boxes.{box_addresses}
use Rattle.cordyceps_tree.proofs.Firsts.{first_leaves, first_stays}
use Rattle.cordyceps_tree.proofs.rooted.first_without.Goals as goal

pub returns-then-is_first : goal.returns-then-is_first
returns-then-is_first g c = λ a b is.
    first_leaves (box_addresses c.args.row.now.boxes.blocks) c.args.at.ptr c.requires.tree.distinct a b is c.neighbour.result.ptr (sym c.if-is_first.true ∙ c.is_first.ensures a b is) c.neighbour.ensures

pub returns : goal.returns
returns g c = λ a b is.
    first_stays (box_addresses c.args.row.now.boxes.blocks) c.args.at.ptr c.requires.tree.distinct a b is c.args.first.ptr c.requires.front (sym c.if-is_first.false ∙ c.is_first.ensures a b is)
