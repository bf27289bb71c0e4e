use Rattle.std.proofs.Common.{sym, subst}
use Rattle.cordyceps_map.specs.Chains.{hash_of, IsMap}
use Rattle.cordyceps_map.proofs.Seen.{inner_has}
use Rattle.cordyceps_map.proofs.stable_map.StableMap.link_front.Goals as goal

pub link_front-requires-clause-there : goal.link_front-requires-clause-there
link_front-requires-clause-there g c = inner_has c.self.inside.nodes.nodes c.self.inside.nodes.lists c.args.self.now c.self.view_is c.args.at c.requires.there

pub invariant_of-self : goal.invariant_of-self
invariant_of-self g c = subst (λ n. IsMap g.K.PartialEq.eq (λ (k : g.row.K.Denot). hash_of g.S.BuildHasher g.S.Hasher.Hasher c.self.inside.hasher (g.K.Hash.hash_input k)) n c.self.inside.buckets.items) (sym c.link_front.ensures.nodes) c.self.invariant
