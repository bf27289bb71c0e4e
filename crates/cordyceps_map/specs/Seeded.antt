-- What a clause reads of `Seeded`.
use Rattle.core.specs.declared.hash.sip.DefaultHasher.{DefaultHasher}
use Rattle.core.specs.Hash.DefaultHasher.{with_keys}
use Rattle.cordyceps_map.specs.declared.seeded.Seeded.{Seeded}

-- the state of a hasher before any key, from the two keys
abbrev pub first_state : Seeded → DefaultHasher
first_state s = with_keys s.key0 s.key1
