use Rattle.std.proofs.Common.{◌≡◌, [], ◌∷◌, ap, sym, ◌∙◌, subst}
use Rattle.cordyceps_base.specs.Element.{Element}
use Rattle.cordyceps_base.specs.Nodes.{Nodes}
use Rattle.cordyceps_stable.specs.Arranged.{Sorted}
use Rattle.cordyceps_stable.specs.Replacing.{IsReplaced}
use Rattle.cordyceps_stable.proofs.Reached.{replaced_has}
use Rattle.cordyceps_stable.proofs.Valid.{replaced_apart, replaced_keeps}
use Rattle.cordyceps_tree.proofs.Exchanging.{replaced_arranges}
use Rattle.cordyceps_tree.proofs.Ones.{element_same}
use Rattle.cordyceps_tree.proofs.stable_tree.StableTree.replace.Goals as goal

pub into_node-old-requires : goal.into_node-old-requires
into_node-old-requires g c =
    let (o, replaced, is) = c.replace.ensures.replaced c.args.node c.new-one.ensures in
    (o, is ∙ ap (λ p. (p, o) ∷ []) (sym c.replace.ensures.at))

pub returns-clause-replaced : goal.returns-clause-replaced
returns-clause-replaced g c =
    let (o, replaced, is) = c.replace.ensures.replaced c.args.node c.new-one.ensures in
    let same : o ≡ c.into_node-old.result = element_same c.replace.result.row.boxes.blocks c.args.at o c.into_node-old.result is (c.into_node-old.ensures ∙ ap (λ p. (p, c.into_node-old.result) ∷ []) c.replace.ensures.at) in
    let view = ap (λ (s : Sorted g.row.T.Denot g.row.O.Denot). s.nodes) c.self.view_is in
    let moved = subst (λ q. IsReplaced c.self.inside.nodes c.args.at o q c.args.node c.replace.new.self) (sym c.spot_at-spot.ensures) replaced in
    subst (λ (n : Nodes g.row.T.Denot). IsReplaced n c.args.at c.into_node-old.result c.spot_at-spot.result c.args.node c.replace.new.self) view
    (subst (λ (x : Element g.row.T.Denot). IsReplaced c.self.inside.nodes c.args.at x c.spot_at-spot.result c.args.node c.replace.new.self) same moved)

pub returns-clause-arrangement : goal.returns-clause-arrangement
returns-clause-arrangement g c = λ cmp a by h.
    let (front, back, was, is) = returns-clause-replaced g c in let old = c.into_node-old.result in
    replaced_arranges cmp (g.met.O.Order.lawful c.args.self.now.order cmp by) c.args.self.now.nodes c.replace.new.self a c.args.at c.spot_at-spot.result old c.args.node (front, back, was, is)
    (c.requires.equal cmp old.value by (front, old.id, back, was)) h

pub returns-clause-there : goal.returns-clause-there
returns-clause-there g c = replaced_has _ _ _ _ _ _ (returns-clause-replaced g c)

pub returns-clause-kept : goal.returns-clause-kept
returns-clause-kept g c = replaced_keeps _ _ _ _ _ _ (returns-clause-replaced g c)

pub returns-clause-apart : goal.returns-clause-apart
returns-clause-apart g c = replaced_apart _ _ _ _ _ _ c.spots_are_distinct.ensures (returns-clause-replaced g c)
