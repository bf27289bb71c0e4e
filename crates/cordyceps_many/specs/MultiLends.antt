-- What lists that share their nodes end as, once a loan of a value has ended.
use Rattle.std.specs.Borrow.{Fml, RattleType, MutBor, Lends}
use denote.RawPtr.{Ptr}
use Rattle.cordyceps_base.specs.Nodes.{spots, with_item}
use Rattle.cordyceps_base.specs.Spots.{index_of}
use Rattle.cordyceps_many.specs.declared.hooks.Rows as rows
use Rattle.cordyceps_many.specs.contracts.multi_list.MultiList.{the_row}
use Rattle.cordyceps_many.specs.MultiList.{Multi}

-- the value at the spot p is w, and nothing else changes
abbrev pub with_value_at : {X : Type 0} → Multi X → Ptr → X → Multi X
with_value_at v p w = record { nodes = with_item v.nodes (index_of p (spots v.nodes)) w; lists = v.lists }

-- the value at the spot p is the last one written through r, and nothing else changes
abbrev pub LendsAt : (T H A E : RattleType) (g : rows.Ghosts H.Denot A.Denot E.Denot) → MutBor (Multi T.Denot) → Ptr →
    MutBor T.Denot → Fml
LendsAt T H A E g l p r = Lends (the_row T H A E g) T l r (with_value_at l.now p)
