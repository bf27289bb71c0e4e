use Rattle.std.proofs.Common.{◌≡◌, length, ◌<◌, ap, sym, ◌∙◌, subst, Option, Some}
use Rattle.cordyceps_base.specs.Element.{Element}
use Rattle.cordyceps_base.specs.Nodes.{Nodes}
use Rattle.cordyceps_tree.specs.TreeMaps.{IsInserted}
use Rattle.cordyceps_tree.proofs.Keys.{apart_inserted, over_inserted, either_rises}
use Rattle.cordyceps_tree.proofs.Ones.{element_same}
use Rattle.cordyceps_tree.proofs.tree_map.TreeMap.put.Goals.{in-Some, in-None}
use Rattle.cordyceps_tree.proofs.tree_map.TreeMap.put.Goals as goal

pub put_apart-requires-clause-fits : goal.put_apart-requires-clause-fits
put_apart-requires-clause-fits g c = subst (λ (n : Nodes (g.row.K.Denot × g.row.V.Denot)). length n < _) (sym c.self.view_is) c.requires.fits

pub into_node-requires : goal.into_node-requires
into_node-requires g c = let (e, alone) = c.requires.alone in let (o, over, is) = c.in-Some.ensures e alone in (o, is)

pub invariant_of-self : goal.invariant_of-self
invariant_of-self g c =
    let (e, alone) = c.requires.alone in
    either_rises g.K.Ord.cmp g.met.K.Ord.total _ c.self.inside.nodes c.put_apart.new.self c.args.one.at.ptr e c.put_apart.result c.self.invariant (c.put_apart.ensures e alone)

pub returns : goal.returns
returns g c = λ e alone.
    let cmp = g.K.Ord.cmp in let v = c.args.self.now in let d = c.put_apart.new.self in let at = c.args.one.at.ptr in
    let Says : Option (Element (g.row.K.Denot × g.row.V.Denot)) → Type 0 = λ r. IsInserted cmp v e at r d in
    elim c.match-put_apart.branch [
      | in-Some w ↦ (let (o, over, is) = w.in-Some.ensures e alone in
          let same : o ≡ w.into_node.result = element_same w.in-Some.left.row.boxes.blocks w.in-Some.left.at.ptr o w.into_node.result is w.into_node.ensures in
          subst Says (ap Some same ∙ sym w.result-is) (over_inserted cmp g.met.K.Ord.total c.self.inside.nodes v d at o e c.self.view_is c.self.invariant over))
      | in-None w ↦ subst Says (sym w.result-is) (apart_inserted cmp g.met.K.Ord.total c.self.inside.nodes v d at e c.self.view_is c.self.invariant (w.in-None.ensures e alone))
    ]
