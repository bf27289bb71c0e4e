use Rattle.std.proofs.Common.{length, ap}
use Rattle.cordyceps_map.specs.Chains.{hash_of}
use Rattle.cordyceps_map.proofs.Powers.{positive}
use Rattle.cordyceps_map.proofs.chains.place_of.Goals as goal

pub bucket_of-requires : goal.bucket_of-requires
bucket_of-requires g c = positive (length c.args.buckets.now) c.requires.power

pub place_in-requires : goal.place_in-requires
place_in-requires g c = record {
  within = c.bucket_of.ensures.within;
  hash = λ (x : g.row.K.Denot). hash_of g.S.BuildHasher g.S.Hasher.Hasher c.args.hasher.now (g.K.Hash.hash_input x);
  map = c.requires;
  alike = λ x same. ap (hash_of g.S.BuildHasher g.S.Hasher.Hasher c.args.hasher.now) (g.met.K.Hash.respects_eq c.args.key.now x same);
  number = c.bucket_of.ensures.bucket;
}
