use Rattle.std.proofs.Common.{sym, subst}
use Rattle.cordyceps_map.specs.Chains.{hash_of, IsMap}
use Rattle.cordyceps_map.proofs.stable_map.StableMap.move_to_back.Goals as goal

pub invariant_of-self : goal.invariant_of-self
invariant_of-self g c = subst (λ n. IsMap g.K.PartialEq.eq (λ (k : g.row.K.Denot). hash_of g.S.BuildHasher g.S.Hasher.Hasher c.self.inside.hasher (g.K.Hash.hash_input k)) n c.self.inside.buckets.items) (sym c.move_to_back.ensures.nodes) c.self.invariant
