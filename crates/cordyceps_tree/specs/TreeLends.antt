-- What a tree ends as, once a `&mut` to one of its values has ended.
use Rattle.std.specs.Borrow.{Fml, RattleType, MutBor, Lends}
use denote.RawPtr.{Ptr}
use Rattle.cordyceps_base.specs.Nodes.{Nodes, spots, with_item}
use Rattle.cordyceps_base.specs.Spots.{index_of}
use Rattle.cordyceps_tree.specs.contracts.rooted.Rooted.{the_row}

-- the value at the spot p is the last one written, and nothing else changes
abbrev pub LendsAt : (T : RattleType) → MutBor (Nodes T.Denot) → Ptr → MutBor T.Denot → Fml
LendsAt T t p r = Lends (the_row T) T t r (with_item t.now (index_of p (spots t.now)))
