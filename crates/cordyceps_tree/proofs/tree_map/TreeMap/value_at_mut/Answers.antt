use Rattle.std.proofs.Common.{refl, sym, ap, ◌∙◌, subst}
use Rattle.cordyceps_base.specs.Nodes.{Nodes}
use Rattle.cordyceps_tree.specs.TreeMaps.{is_key, value_of, with_value_of, IsFound}
use Rattle.cordyceps_tree.proofs.Keys.{found_has, written_is, written_rises, written_value}
use Rattle.cordyceps_tree.proofs.tree_map.TreeMap.value_at_mut.Goals as goal

pub get_mut-pair-requires : goal.get_mut-pair-requires
get_mut-pair-requires g c =
    let f = subst (λ (n : Nodes (g.row.K.Denot × g.row.V.Denot)). IsFound g.K.Ord.cmp n c.args._key.now c.args.at) (sym c.self.view_is) c.requires in
    found_has g.K.Ord.cmp g.met.K.Ord.total c.self.inside.nodes c.args._key.now c.args.at c.self.invariant f

pub invariant_of-self-lent : goal.invariant_of-self-lent
invariant_of-self-lent g c = λ w.
    let f = subst (λ (n : Nodes (g.row.K.Denot × g.row.V.Denot)). IsFound g.K.Ord.cmp n c.args._key.now c.args.at) (sym c.self.view_is) c.requires in
    written_rises g.K.Ord.cmp g.met.K.Ord.total c.self.inside.nodes c.args._key.now c.args.at c.self.invariant c.spots_are_distinct.ensures f c.get_mut-pair.result.now c.get_mut-pair.ensures.value w

pub returns : goal.returns
returns g c =
    let cmp = g.K.Ord.cmp in let t = g.met.K.Ord.total in let k = c.args._key.now in let ns = c.self.inside.nodes in
    let f = subst (λ (n : Nodes (g.row.K.Denot × g.row.V.Denot)). IsFound cmp n k c.args.at) (sym c.self.view_is) c.requires in
    let x = c.get_mut-pair.result.now in let at = c.get_mut-pair.ensures.value in (
      (refl, λ w. written_is cmp t ns k c.args.at c.self.invariant c.spots_are_distinct.ensures f x at w ∙ ap (λ (n : Nodes (g.row.K.Denot × g.row.V.Denot)). with_value_of (is_key cmp k) n w) c.self.view_is),
      record { writes_back = tt; value = written_value cmp t ns k c.args.at c.self.invariant c.spots_are_distinct.ensures f x at ∙ ap (value_of cmp k) c.self.view_is },
    )
