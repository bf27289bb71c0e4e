use Rattle.std.proofs.Common.{sym, subst}
use Rattle.cordyceps_map.specs.Chains.{hash_of, IsMap}
use Rattle.cordyceps_map.proofs.Seen.{inner_has}
use Rattle.cordyceps_map.proofs.stable_map.StableMap.unlink_others.Goals as goal

pub unlink_others-requires : goal.unlink_others-requires
unlink_others-requires g c = inner_has c.self.inside.nodes.nodes c.self.inside.nodes.lists c.args.self.now c.self.view_is c.args.at c.requires

pub invariant_of-self : goal.invariant_of-self
invariant_of-self g c = subst (λ n. IsMap g.K.PartialEq.eq (λ (k : g.row.K.Denot). hash_of g.S.BuildHasher g.S.Hasher.Hasher c.self.inside.hasher (g.K.Hash.hash_input k)) n c.self.inside.buckets.items) (sym c.unlink_others.ensures.nodes) c.self.invariant
