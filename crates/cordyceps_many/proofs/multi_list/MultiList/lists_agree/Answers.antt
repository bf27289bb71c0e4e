use Rattle.std.proofs.Common.{refl, sym, ap, ◌∙◌, subst}
use Rattle.cordyceps_base.specs.Nodes.{spots}
use Rattle.cordyceps_base.specs.Spots.{AreDistinct, AreNullComparable}
use Rattle.cordyceps_many.specs.MultiList.{list_at}
use Rattle.cordyceps_many.proofs.Members.{once_distinct}
use Rattle.cordyceps_many.proofs.Shared.{linked, spot_in, in_spot, listed, all_of, spots_are}
use Rattle.cordyceps_many.proofs.multi_list.MultiList.lists_agree.Goals as goal

pub returns-clause-distinct : goal.returns-clause-distinct
returns-clause-distinct g c =
    let ns = c.self.inside.row.boxes.blocks in let es = c.self.inside.ends in let v = c.args.self.now in let inv = c.self.invariant in let seen = c.self.view_is in let k = g.H.Rows.count in
    subst AreDistinct (sym (ap (λ m. spots m.nodes) (sym seen) ∙ spots_are ns)) inv.parts.distinct

pub returns-clause-comparable : goal.returns-clause-comparable
returns-clause-comparable g c =
    let ns = c.self.inside.row.boxes.blocks in let inv = c.self.invariant in let seen = c.self.view_is in
    subst AreNullComparable (sym (ap (λ m. spots m.nodes) (sym seen) ∙ spots_are ns)) inv.parts.comparable

pub returns-clause-once : goal.returns-clause-once
returns-clause-once g c =
    let ns = c.self.inside.row.boxes.blocks in let es = c.self.inside.ends in let v = c.args.self.now in let inv = c.self.invariant in let seen = c.self.view_is in let k = g.H.Rows.count in
    λ i. once_distinct (list_at i v.lists) (linked k es ns v inv seen i).once

pub returns-clause-inside : goal.returns-clause-inside
returns-clause-inside g c =
    let ns = c.self.inside.row.boxes.blocks in let es = c.self.inside.ends in let v = c.args.self.now in let inv = c.self.invariant in let seen = c.self.view_is in let k = g.H.Rows.count in
    λ i p m. in_spot k es ns v inv seen p (listed k es ns v inv seen i p m)

pub returns-clause-all : goal.returns-clause-all
returns-clause-all g c =
    let ns = c.self.inside.row.boxes.blocks in let es = c.self.inside.ends in let v = c.args.self.now in let inv = c.self.invariant in let seen = c.self.view_is in let k = g.H.Rows.count in
    λ p h. all_of k es ns v inv seen 0 refl p (spot_in k es ns v inv seen p h)
