use Rattle.std.proofs.Common.{◌≡◌, ◌∷◌, ap, sym, ◌∙◌}
use Rattle.cordyceps_stable.specs.Arranged.{Sorted}
use Rattle.cordyceps_stable.proofs.Arranged.{arranges_first}
use Rattle.cordyceps_stable.proofs.Valid.{first_out_keeps}
use Rattle.cordyceps_tree.proofs.Ones.{element_same}
use Rattle.cordyceps_tree.proofs.stable_tree.StableTree.pop_front.Goals as goal

pub returns-clause-taken : goal.returns-clause-taken
returns-clause-taken g c =
    let view = ap (λ (s : Sorted g.row.T.Denot g.row.O.Denot). s.nodes) c.self.view_is in let (e, had, one) = c.take_first.ensures in let p = c.take_first.result.at.ptr in let node = c.into_node-node.result in
    let same : e ≡ node = element_same c.take_first.result.row.boxes.blocks p e node one c.into_node-node.ensures in
    let is : c.args.self.now.nodes ≡ (p, node) ∷ c.take_first.new.self = sym view ∙ had ∙ (λ i. (p, same i) ∷ c.take_first.new.self) in
    (p, is, λ cmp a by h. arranges_first (g.met.O.Order.lawful c.args.self.now.order cmp by) (p, node) c.args.self.now.nodes c.take_first.new.self a is h)

pub returns-clause-kept : goal.returns-clause-kept
returns-clause-kept g c = let (p, is, _) = returns-clause-taken g c in first_out_keeps _ _ p _ is
