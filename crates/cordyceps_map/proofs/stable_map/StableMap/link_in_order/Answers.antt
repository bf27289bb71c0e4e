use Rattle.std.proofs.Common.{sym, subst}
use Rattle.cordyceps_many.specs.MultiList.{list_at}
use Rattle.cordyceps_map.specs.Chains.{hash_of, IsMap}
use Rattle.cordyceps_map.proofs.Ordered.{put, kept}
use Rattle.cordyceps_map.proofs.Seen.{inner_has}
use Rattle.cordyceps_map.proofs.stable_map.StableMap.link_in_order.Goals as goal

pub link_in_order-requires-clause-there : goal.link_in_order-requires-clause-there
link_in_order-requires-clause-there g c = inner_has c.self.inside.nodes.nodes c.self.inside.nodes.lists c.args.self.now c.self.view_is c.args.at c.requires.there

pub invariant_of-self : goal.invariant_of-self
invariant_of-self g c = subst (λ n. IsMap g.K.PartialEq.eq (λ (k : g.row.K.Denot). hash_of g.S.BuildHasher g.S.Hasher.Hasher c.self.inside.hasher (g.K.Hash.hash_input k)) n c.self.inside.buckets.items) (sym c.link_in_order.ensures.nodes) c.self.invariant

pub returns-clause-list : goal.returns-clause-list
returns-clause-list g c =
    put g.O.Order.compares_by c.args.order.now c.self.inside.nodes.nodes c.self.inside.nodes.lists c.args.self.now c.self.view_is c.args.i (list_at c.args.i c.link_in_order.new.self.lists) c.args.at c.link_in_order.ensures.list

pub returns-clause-in_order : goal.returns-clause-in_order
returns-clause-in_order g c =
    kept g.O.Order.compares_by c.args.order.now c.self.inside.nodes.nodes c.self.inside.nodes.lists c.args.self.now c.self.view_is c.args.i (list_at c.args.i c.link_in_order.new.self.lists) c.link_in_order.new.self.nodes c.link_in_order.ensures.in_order
