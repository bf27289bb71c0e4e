use Rattle.std.proofs.Common.{sym, subst}
use Rattle.cordyceps_map.specs.Chains.{hash_of, IsMap}
use Rattle.cordyceps_map.proofs.Seen.{some_shown}
use Rattle.cordyceps_map.proofs.stable_map.StableMap.unlink_front.Goals as goal

pub invariant_of-self : goal.invariant_of-self
invariant_of-self g c = subst (λ n. IsMap g.K.PartialEq.eq (λ (k : g.row.K.Denot). hash_of g.S.BuildHasher g.S.Hasher.Hasher c.self.inside.hasher (g.K.Hash.hash_input k)) n c.self.inside.buckets.items) (sym c.unlink_front.ensures.nodes) c.self.invariant

pub returns-clause-there : goal.returns-clause-there
returns-clause-there g c = some_shown c.unlink_front.new.self.nodes c.unlink_front.result c.unlink_front.ensures.there
