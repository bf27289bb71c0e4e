use Rattle.std.proofs.Common.{ℕ, ◌+◌, ◌≤◌, length, ap, sym, subst}
use Rattle.cordyceps_base.specs.Nodes.{Nodes}
use Rattle.cordyceps_tree.specs.Heights.{IsAtMostLog}
use Rattle.cordyceps_stable.specs.Arranged.{Sorted}
use Rattle.cordyceps_stable.proofs.Reached.{taken_has}
use Rattle.cordyceps_stable.proofs.Valid.{put_apart, put_keeps}
use Rattle.cordyceps_tree.specs.Bounds.{SaysAfterEquals}
use Rattle.cordyceps_tree.proofs.Changing.{put_arranges, put_taken}
use Rattle.cordyceps_tree.proofs.stable_tree.StableTree.put.Goals as goal

pub returns-clause-others : goal.returns-clause-others
returns-clause-others g c =
    let view = ap (λ (s : Sorted g.row.T.Denot g.row.O.Denot). s.nodes) c.self.view_is in
    put_taken (SaysAfterEquals (g.O.Order.compares_by c.self.inside.order) c.args.node.value) c.self.inside.nodes c.args.self.now.nodes c.put-spot.new.self c.new.result.at.ptr c.put-spot.result c.args.node view c.put-spot.ensures.at (c.put-spot.ensures.put c.args.node c.new.ensures)

pub returns-clause-there : goal.returns-clause-there
returns-clause-there g c = taken_has _ _ _ _ (returns-clause-others g c)

pub returns-clause-kept : goal.returns-clause-kept
returns-clause-kept g c = put_keeps _ _ _ _ (returns-clause-others g c)

pub returns-clause-apart : goal.returns-clause-apart
returns-clause-apart g c = put_apart _ _ _ _ c.spots_are_distinct.ensures (returns-clause-others g c)

pub returns-clause-arrangement : goal.returns-clause-arrangement
returns-clause-arrangement g c =
    λ cmp a asked h. let view = ap (λ (s : Sorted g.row.T.Denot g.row.O.Denot). s.nodes) c.self.view_is in
    let by = subst (λ o. g.O.Order.compares_by o cmp) (ap (λ (s : Sorted g.row.T.Denot g.row.O.Denot). s.order) (sym c.self.view_is)) asked in
    put_arranges (g.O.Order.compares_by c.self.inside.order) cmp by (g.met.O.Order.lawful c.self.inside.order cmp by) c.self.inside.nodes c.args.self.now.nodes c.put-spot.new.self a c.new.result.at.ptr c.put-spot.result c.args.node view c.put-spot.ensures.at (c.put-spot.ensures.put c.args.node c.new.ensures) h

pub returns-clause-few : goal.returns-clause-few
returns-clause-few g c = λ k.
    subst (λ (n : Nodes g.row.T.Denot). (h : ℕ) × (g.C.Counter.counted c.put-spot.new.steps ≤ g.C.Counter.counted c.args.steps.now + h) × IsAtMostLog h (length n)) (ap (λ (s : Sorted g.row.T.Denot g.row.O.Denot). s.nodes) c.self.view_is) (c.put-spot.ensures.few k)
