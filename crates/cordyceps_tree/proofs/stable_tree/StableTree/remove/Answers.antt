use Rattle.std.proofs.Common.{◌≡◌, [], ◌∷◌, ap, sym, ◌∙◌, subst}
use Rattle.cordyceps_base.specs.BySpot.{IsTaken}
use Rattle.cordyceps_base.specs.Element.{Element}
use Rattle.cordyceps_base.specs.Nodes.{Nodes}
use Rattle.cordyceps_stable.specs.Arranged.{Sorted}
use Rattle.cordyceps_stable.proofs.Arranged.{arranges_taken}
use Rattle.cordyceps_stable.proofs.Valid.{taken_keeps}
use Rattle.cordyceps_tree.proofs.Ones.{element_same}
use Rattle.cordyceps_tree.proofs.stable_tree.StableTree.remove.Goals as goal

pub into_node-node-requires : goal.into_node-node-requires
into_node-node-requires g c =
    let (e, taken, is) = c.take.ensures.taken in
    (e, is ∙ ap (λ p. (p, e) ∷ []) (sym c.take.ensures.at))

pub returns-clause-taken : goal.returns-clause-taken
returns-clause-taken g c =
    let (e, taken, is) = c.take.ensures.taken in let one = c.take.result.row.boxes.blocks in let at = c.args.at in
    let same : e ≡ c.into_node-node.result = element_same one at e c.into_node-node.result is (c.into_node-node.ensures ∙ ap (λ p. (p, c.into_node-node.result) ∷ []) c.take.ensures.at) in
    subst (λ (n : Nodes g.row.T.Denot). IsTaken n at c.into_node-node.result c.take.new.self) (ap (λ (s : Sorted g.row.T.Denot g.row.O.Denot). s.nodes) c.self.view_is)
    (subst (λ (x : Element g.row.T.Denot). IsTaken c.self.inside.nodes at x c.take.new.self) same taken)

pub returns-clause-kept : goal.returns-clause-kept
returns-clause-kept g c = taken_keeps _ _ _ _ (returns-clause-taken g c)

pub returns-clause-arrangement : goal.returns-clause-arrangement
returns-clause-arrangement g c = λ cmp a by h. arranges_taken (g.met.O.Order.lawful c.args.self.now.order cmp by) _ _ a c.args.at c.into_node-node.result (returns-clause-taken g c) h
