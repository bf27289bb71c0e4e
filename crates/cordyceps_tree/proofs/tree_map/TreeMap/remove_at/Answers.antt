use Rattle.std.proofs.Common.{◌≡◌, [], ◌∷◌, ap, sym, ◌∙◌, subst}
use Rattle.cordyceps_base.specs.BySpot.{IsTaken}
use Rattle.cordyceps_base.specs.Element.{Element}
use Rattle.cordyceps_base.specs.Nodes.{Nodes}
use Rattle.cordyceps_stable.proofs.Valid.{taken_keeps}
use Rattle.cordyceps_tree.proofs.Keys.{taken_gone, taken_rises}
use Rattle.cordyceps_tree.proofs.Ones.{element_same}
use Rattle.cordyceps_tree.proofs.tree_map.TreeMap.remove_at.Goals as goal

pub into_node-node-requires : goal.into_node-node-requires
into_node-node-requires g c = let (e, taken, is) = c.take.ensures.taken in (e, is ∙ ap (λ p. (p, e) ∷ []) (sym c.take.ensures.at))

pub invariant_of-self : goal.invariant_of-self
invariant_of-self g c = let (e, taken, is) = c.take.ensures.taken in taken_rises g.K.Ord.cmp g.met.K.Ord.total c.self.inside.nodes c.take.new.self c.args.at e c.self.invariant taken

pub returns-clause-taken : goal.returns-clause-taken
returns-clause-taken g c =
    let (e, taken, is) = c.take.ensures.taken in
    let same : e ≡ c.into_node-node.result = element_same c.take.result.row.boxes.blocks c.args.at e c.into_node-node.result is (c.into_node-node.ensures ∙ ap (λ p. (p, c.into_node-node.result) ∷ []) c.take.ensures.at) in
    subst (λ (n : Nodes (g.row.K.Denot × g.row.V.Denot)). IsTaken n c.args.at c.into_node-node.result c.take.new.self) c.self.view_is (subst (λ (x : Element (g.row.K.Denot × g.row.V.Denot)). IsTaken c.self.inside.nodes c.args.at x c.take.new.self) same taken)

pub returns-clause-kept : goal.returns-clause-kept
returns-clause-kept g c = taken_keeps _ _ _ _ (returns-clause-taken g c)

pub returns-clause-gone : goal.returns-clause-gone
returns-clause-gone g c =
    let back = subst (λ (n : Nodes (g.row.K.Denot × g.row.V.Denot)). IsTaken n c.args.at c.into_node-node.result c.take.new.self) (sym c.self.view_is) (returns-clause-taken g c) in
    taken_gone g.K.Ord.cmp g.met.K.Ord.total c.self.inside.nodes c.take.new.self c.args.at c.into_node-node.result c.self.invariant back
