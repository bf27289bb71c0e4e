use Rattle.std.proofs.Common.{◌≡◌, MatchOption, [], ap, sym, ◌∙◌, subst}
use Rattle.std.specs.Prelude.{IfSome}
use Rattle.cordyceps_base.specs.BySpot.{IsFirst, HasSpot}
use Rattle.cordyceps_base.specs.Nodes.{Nodes, entries}
use Rattle.cordyceps_stable.specs.Arranged.{Sorted}
use Rattle.cordyceps_stable.proofs.Arranged.{same_nodes}
use Rattle.cordyceps_tree.proofs.Walks.{from_first}
use Rattle.cordyceps_tree.proofs.stable_tree.StableTree.iter.Goals as goal

pub from-requires : goal.from-requires
from-requires g c = subst (λ (n : Nodes g.row.T.Denot). IfSome c.first.result (λ p. HasSpot n p)) (sym (ap (λ (s : Sorted g.row.T.Denot g.row.O.Denot). s.nodes) c.self.view_is)) c.first.ensures.there

pub returns-clause-entries : goal.returns-clause-entries
returns-clause-entries g c =
    let view = ap (λ (s : Sorted g.row.T.Denot g.row.O.Denot). s.nodes) c.self.view_is in
    let first = subst (λ (n : Nodes g.row.T.Denot). MatchOption c.first.result (n ≡ []) (λ p. IsFirst n p)) (sym view) c.first.ensures.first in
    c.from.ensures ∙ from_first c.self.inside.nodes c.first.result c.spots_are_distinct.ensures first ∙ ap entries view

pub returns-clause-arrangement : goal.returns-clause-arrangement
returns-clause-arrangement g c = λ cmp a s by p q. same_nodes (g.met.O.Order.lawful c.args.self.now.order cmp by) a c.args.self.now.nodes s p q
