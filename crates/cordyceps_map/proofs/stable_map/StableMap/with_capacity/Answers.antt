use Rattle.cordyceps_map.specs.Chains.{hash_of}
use Rattle.cordyceps_map.proofs.Filling.{empty_map}
use Rattle.cordyceps_map.proofs.stable_map.StableMap.with_capacity.Goals as goal

pub invariant_of-result : goal.invariant_of-result
invariant_of-result g c = empty_map (λ (x : g.row.K.Denot). hash_of g.S.BuildHasher g.S.Hasher.Hasher c.args.hasher (g.K.Hash.hash_input x)) g.K.PartialEq.eq c.new.result.nodes c.in_ok-buckets.buckets.items c.new.ensures.nodes c.in_ok-buckets.ensures.empty
