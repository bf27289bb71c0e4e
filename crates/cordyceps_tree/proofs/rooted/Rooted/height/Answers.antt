use Rattle.std.proofs.Common.{◌≤◌, length, sym, subst, arith}
use Rattle.cordyceps_base.specs.Nodes.{Nodes}
use Rattle.cordyceps_tree.specs.Rows.{nodes_of}
use Rattle.cordyceps_tree.specs.Heights.{least}
use Rattle.cordyceps_tree.proofs.Heights.{not_higher}
use Rattle.cordyceps_tree.proofs.Saying.{root_reaches, root_high}
use Rattle.cordyceps_tree.proofs.rooted.Rooted.height.Goals as goal

pub height_of-requires : goal.height_of-requires
height_of-requires g c = root_reaches c.self.inside.root.ptr c.self.inside.row.boxes.blocks c.self.invariant.tree

pub returns-clause-nodes : goal.returns-clause-nodes
returns-clause-nodes g c =
    let high = subst (λ h. least h ≤ length (nodes_of c.self.inside.row.boxes.blocks)) (sym c.height_of.ensures) (root_high c.self.inside.root.ptr c.self.inside.row.boxes.blocks c.self.invariant.tree) in
    subst (λ (n : Nodes g.row.T.Denot). least c.height_of.result ≤ length n) c.self.view_is high

pub returns-clause-log : goal.returns-clause-log
returns-clause-log g c = let byte = c.height_of.type_inv in not_higher c.height_of.result _ (omega (arith, byte)) (returns-clause-nodes g c)
